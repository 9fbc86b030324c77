-- What a decoder shows of a stored stream.
use Rattle.std.proofs.Common.{◌≡◌, ◌<◌, ◌+◌, ◌*◌, ◌%◌, ◌++◌, ℕ, true, false, List, [], ◌∷◌, length, map, get_or, replicate, Option, Some, None, refl, sym, ap, ap₂, subst, ◌∙◌, arith, mul-pos, append-nil, zero-add, lit<}
use Rattle.std.specs.Prelude.{option_map}
use Rattle.std.specs.List.{All}
use Rattle.std.proofs.lemmas.Grind.{common_steps}
use Rattle.std.proofs.lemmas.List.{length-map, get_or-map}
use Rattle.std.proofs.lemmas.List.Elements.{All-nil, All-cons, All-head, All-tail, All-append, All-get_or}
use Rattle.enc_tables.specs.declared.records.MbKind.TheVariants as kinds
use Rattle.enc_tables.specs.declared.records.MbRecord.{MbRecord}
use Rattle.enc_tables.specs.Kinds.{is_pcm}
use Rattle.enc_tables.specs.Records.{blank_record}
use Rattle.enc_tables.specs.Steps.{steps}
use Rattle.spec_film.specs.declared.FilmHead.{FilmHead}
use Rattle.spec_film.specs.Films.{Planes, AllowedHead, film_of}
use Rattle.spec_bits.specs.Bits.{IsByte}
use Rattle.spec_headers.specs.HeadFields.{sequence_payload, picture_payload}
use Rattle.spec_bits.specs.Units.{unit_bytes}
use Rattle.spec_stream.specs.Pictures.{IsPicture}
use Rattle.spec_stream.specs.Samples.{plane_from, picture_from}
use Rattle.spec_film.specs.Cropping.{cropped, shown}
use Rattle.spec_stream.specs.Stored.{macroblocks_of, mbs_across, mbs_down, stored_sequence, stored_slice_head, stored_picture, stored_pictures, stored_stream}
use Rattle.spec_stream.proofs.PcmLaws.{IsMacroblock}
use Rattle.spec_stream.proofs.PictureLaws.{macroblocks_are, length-macroblocks_of, across_some, down_some, has_planes, picture_back}
use Rattle.spec_stream.proofs.DecodeLaws.{sequence_allowed, stored_payload, slice_back, slice_ends}
use Rattle.spec_stream.proofs.FilmPictures.{film_has}
use Rattle.spec_filter.proofs.Pcm.{pcm_stays}
use Rattle.spec_decoder.specs.Pictures.{shown_planes, decode_by}
use Rattle.spec_pictures.specs.Coded.{CodedSlice, IsCodedSlice, AllCover, picture_units, stream_of, shown_of}
use Rattle.spec_pictures.proofs.Idr.{idr_streams_decode}
use Rattle.spec_decoder.specs.Frames.{blank_planes, lists_by, sources_by, samples_put, macroblock_made, slice_made, slices_made, all_records, picture_made, frames, decode}
use Rattle.spec_lists.specs.Heads.{is_other}
use Rattle.spec_lists.specs.Lists.{pictures_of}
use Rattle.spec_reconstruction.specs.Inter.{Sources}
use Rattle.spec_decoder.specs.Macroblocks.{Macroblock, pcm, coded, record_of, Slice, of_samples, read_slice}
use Rattle.spec_decoding.proofs.Encoded.{alternate}
use Rattle.spec_decoder.proofs.Steps.{steps_same, steps_part}
use Rattle.spec_decoding.proofs.Placing.{block_put, blocks_make}

-- ---- the planes that I_PCM macroblocks make

are_long : (across down : ℕ) (ms : List (List ℕ)) → length ms ≡ across * down → All IsMacroblock ms → (k : ℕ) → k < across * down → length (get_or ms k []) ≡ 384
are_long across down ms count are k below = (All-get_or IsMacroblock ms k [] (subst (λ (n : ℕ). k < n) (sym count) below) are).size

planes_same : (a b c : List ℕ) (p : Planes) → p.luma ≡ a → p.cb ≡ b → p.cr ≡ c → (let q : Planes = record { luma = a; cb = b; cr = c } in p ≡ q)
planes_same a b c p x y z =
    let f : List ℕ → List ℕ → List ℕ → Planes = λ a b c. record { luma = a; cb = b; cr = c } in
    ap (λ (l : List ℕ). f l p.cb p.cr) x ∙ ap (λ (l : List ℕ). f a l p.cr) y ∙ ap (λ (l : List ℕ). f a b l) z

blank_long : (n : ℕ) → length {A = ℕ} (replicate n 0) ≡ n
blank_long n = grind (arith, common_steps)

turned : (a b : ℕ) → b * a ≡ a * b
turned a b = grind arith

module _ (across down : ℕ) (ms : List (List ℕ)) (wide : 0 < across) (count : length ms ≡ across * down) (are : All IsMacroblock ms) where
  put : ℕ → Planes → Planes
  put k now = samples_put across k (get_or ms k []) now

  blank : Planes
  blank = blank_planes across down

  long : (k : ℕ) → k < across * down → length (get_or ms k []) ≡ 384
  long k below = are_long across down ms count are k below

  luma_made : (steps put (across * down) blank).luma ≡ plane_from across down 16 0 ms
  unfolding put blank blank_planes samples_put
  luma_made =
      steps_part (λ (p : Planes). p.luma) put (λ k now. block_put 16 across 0 k (get_or ms k []) now) (across * down) blank (λ k p. refl)
      ∙ blocks_make 16 across down 0 (lit< tt) wide ms (λ k below. omega (arith, long k below)) blank.luma (blank_long _ ∙ turned (16 * across) (16 * down))

  cb_made : (steps put (across * down) blank).cb ≡ plane_from across down 8 256 ms
  unfolding put blank blank_planes samples_put
  cb_made =
      steps_part (λ (p : Planes). p.cb) put (λ k now. block_put 8 across 256 k (get_or ms k []) now) (across * down) blank (λ k p. refl)
      ∙ blocks_make 8 across down 256 (lit< tt) wide ms (λ k below. omega (arith, long k below)) blank.cb (blank_long _ ∙ turned (8 * across) (8 * down))

  cr_made : (steps put (across * down) blank).cr ≡ plane_from across down 8 320 ms
  unfolding put blank blank_planes samples_put
  cr_made =
      steps_part (λ (p : Planes). p.cr) put (λ k now. block_put 8 across 320 k (get_or ms k []) now) (across * down) blank (λ k p. refl)
      ∙ blocks_make 8 across down 320 (lit< tt) wide ms (λ k below. omega (arith, long k below)) blank.cr (blank_long _ ∙ turned (8 * across) (8 * down))

  samples_make : (o : Sources) → slice_made across o 0 (map pcm ms) (blank_planes across down) ≡ picture_from across down ms
  unfolding slice_made put blank
  samples_make o =
      let none : Macroblock = coded (blank_record kinds.Pcm 0) in
      ap (λ (n : ℕ). steps (λ k now. macroblock_made across o 0 (0 + k) (get_or (map pcm ms) k none) now) n (blank_planes across down)) (length-map ms pcm ∙ count)
      ∙ steps_same (λ k now. macroblock_made across o 0 (0 + k) (get_or (map pcm ms) k none) now) (λ k now. samples_put across k (get_or ms k []) now) (across * down) (blank_planes across down)
      (λ k below now.
      ap (λ (mb : Macroblock). macroblock_made across o 0 (0 + k) mb now) (get_or-map pcm ms k [] none (subst (λ (n : ℕ). k < n) (sym count) below))
      ∙ ap (λ (n : ℕ). samples_put across n (get_or ms k []) now) (zero-add k))
      ∙ planes_same _ _ _ (steps put (across * down) (blank_planes across down)) luma_made cb_made cr_made

-- ---- their records

all_pcm : (ms : List (List ℕ)) → All (λ (r : MbRecord). is_pcm r.kind ≡ true) (map record_of (map pcm ms))
unfolding blank_record
all_pcm [] = All-nil (λ (r : MbRecord). is_pcm r.kind ≡ true)
all_pcm (m ∷ ms) = All-cons (λ (r : MbRecord). is_pcm r.kind ≡ true) (record_of (pcm m)) (map record_of (map pcm ms)) refl (all_pcm ms)

-- ---- a picture

the_slice : FilmHead → ℕ → Planes → Slice
the_slice h number p = of_samples (stored_slice_head number, macroblocks_of (mbs_across h) (mbs_down h) p)

coded_slice : FilmHead → ℕ → Planes → CodedSlice Slice
coded_slice h number p = record { payload = stored_payload h number p; slice = the_slice h number p }

picture_is : (h : FilmHead) (number : ℕ) (p : Planes) → AllowedHead h → IsPicture h p → shown_planes (stored_sequence h) (frames.planes (stored_sequence h) [] (the_slice h number p ∷ [])) ≡ shown h p
unfolding the_slice picture_made slices_made
picture_is h number p allowed is =
    let across : ℕ = mbs_across h in
    let down : ℕ = mbs_down h in
    let ms : List (List ℕ) = macroblocks_of across down p in
    let wide : 0 < across = across_some h allowed in
    let are : All IsMacroblock ms = macroblocks_are across down p wide (has_planes h p is) is.luma_bytes is.cb_bytes is.cr_bytes in
    ap (λ (q : Planes). cropped across h.width h.height q)
    (pcm_stays (pictures_of (lists_by (stored_slice_head number) []).list0) (pictures_of (lists_by (stored_slice_head number) []).list1) (all_records (the_slice h number p ∷ [])) (16 * across) (slice_made across (sources_by (stored_slice_head number) []) 0 (map pcm ms) (blank_planes across down))
    (All-append (λ (r : MbRecord). is_pcm r.kind ≡ true) (map record_of (map pcm ms)) [] (all_pcm ms) (All-nil (λ (r : MbRecord). is_pcm r.kind ≡ true)))
    ∙ samples_make across down ms wide (length-macroblocks_of across down p) are (sources_by (stored_slice_head number) []))
    ∙ picture_back h p allowed is

is_coded : (h : FilmHead) (number : ℕ) (p : Planes) → AllowedHead h → IsPicture h p → IsCodedSlice frames (stored_sequence h) (false, false) (stored_slice_head number) 0 (coded_slice h number p)
unfolding coded_slice the_slice read_slice
is_coded h number p allowed is = record {
  reads = ap (λ o. option_map of_samples o) (slice_back h number p allowed is);
  ends = slice_ends h number p allowed;
  first = refl;
  some = subst (λ (n : ℕ). 0 < n) (sym (counted h p)) (mul-pos (across_some h allowed) (down_some h allowed));
  agrees = refl;
  kind = refl;
  idr = refl;
  frame_num = refl;
  poc = refl;
}
  where
    counted : (h : FilmHead) (p : Planes) → length (map pcm (macroblocks_of (mbs_across h) (mbs_down h) p)) ≡ mbs_across h * mbs_down h
    counted h p = length-map (macroblocks_of (mbs_across h) (mbs_down h) p) pcm ∙ length-macroblocks_of (mbs_across h) (mbs_down h) p

-- ---- a stream

all_coded : FilmHead → ℕ → List Planes → List (List (CodedSlice Slice))
all_coded h number [] = []
all_coded h number (p ∷ ps) = (coded_slice h number p ∷ []) ∷ all_coded h (number + 1) ps

stream_is : (h : FilmHead) (number : ℕ) (pictures : List Planes) → stored_pictures h number pictures ≡ stream_of (stored_sequence h) (false, false) (all_coded h number pictures)
unfolding stored_pictures stored_picture stream_of picture_units all_coded coded_slice
stream_is h number [] = refl
stream_is h number (p ∷ ps) =
    ap₂ (λ (slice rest : List ℕ). (unit_bytes true 3 7 (sequence_payload (stored_sequence h)) ++ (unit_bytes true 3 8 (picture_payload false false) ++ slice)) ++ rest)
    (sym (append-nil (unit_bytes false 3 5 (stored_payload h number p)))) (stream_is h (number + 1) ps)

all_cover : (h : FilmHead) (number : ℕ) (before : Option ℕ) (pictures : List Planes) → AllowedHead h → is_other (Some (number % 2)) before ≡ true → All (IsPicture h) pictures
    → AllCover frames (stored_sequence h) (false, false) before (all_coded h number pictures)
unfolding all_coded coded_slice the_slice
all_cover h number before [] allowed other are = tt
all_cover h number before (p ∷ ps) allowed other are = (
  stored_slice_head number,
  (
    record {
      covers = (
        is_coded h number p allowed (All-head (IsPicture h) p ps are),
        zero-add (length (map pcm (macroblocks_of (mbs_across h) (mbs_down h) p))) ∙ length-map (macroblocks_of (mbs_across h) (mbs_down h) p) pcm ∙ length-macroblocks_of (mbs_across h) (mbs_down h) p,
      );
      other = other;
    },
    all_cover h (number + 1) (Some (number % 2)) ps allowed (alternate number) (All-tail (IsPicture h) p ps are),
  ),
)

shown_is : (h : FilmHead) (number : ℕ) (pictures : List Planes) → AllowedHead h → All (IsPicture h) pictures → shown_of frames (stored_sequence h) (all_coded h number pictures) ≡ map (shown h) pictures
unfolding all_coded coded_slice
shown_is h number [] allowed are = refl
shown_is h number (p ∷ ps) allowed are =
    ap₂ (λ (q : Planes) (rest : List Planes). q ∷ rest) (picture_is h number p allowed (All-head (IsPicture h) p ps are)) (shown_is h (number + 1) ps allowed (All-tail (IsPicture h) p ps are))

pub stored_stream_decodes : (h : FilmHead) (pictures : List Planes) → AllowedHead h → All (IsPicture h) pictures → decode (stored_stream h pictures) ≡ Some (map (shown h) pictures)
unfolding decode
stored_stream_decodes h pictures allowed are =
    ap (λ (bytes : List ℕ). decode_by frames bytes) (stream_is h 0 pictures)
    ∙ idr_streams_decode frames (stored_sequence h) (false, false) (all_coded h 0 pictures) (sequence_allowed h allowed) (lit< tt) (all_cover h 0 None pictures allowed refl are)
    ∙ ap (λ (ps : List Planes). Some ps) (shown_is h 0 pictures allowed are)

pub stored_film_decodes : (bytes : List ℕ) (h : FilmHead) → All IsByte bytes → (film_of bytes).head ≡ Some h → decode (stored_stream h (film_of bytes).pictures) ≡ Some (map (shown h) (film_of bytes).pictures)
stored_film_decodes bytes h small is =
    let has = film_has bytes h small is in
    stored_stream_decodes h (film_of bytes).pictures has.allowed has.pictures
