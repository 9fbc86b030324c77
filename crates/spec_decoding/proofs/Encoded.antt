-- What a decoder shows of an encoding, and what it reads.
use Rattle.std.proofs.Common.{◌≡◌, ◌≤◌, ◌<◌, ◌+◌, ◌/◌, ◌%◌, ◌==◌, ◌++◌, ℕ, true, not, List, [], ◌∷◌, map, Option, Some, None, refl, ap, ap₂, ◌∙◌, arith, lit<}
use Rattle.std.specs.List.{All}
use Rattle.std.proofs.lemmas.Bool.Decides.{nat_tests}
use Rattle.std.proofs.lemmas.List.Elements.{All-head, All-tail}
use Rattle.spec_film.specs.declared.FilmHead.{FilmHead}
use Rattle.spec_film.specs.Films.{Planes, AllowedHead}
use Rattle.spec_headers.specs.declared.heads.SeqHead.{SeqHead}
use Rattle.spec_words.specs.declared.Settings.{Settings}
use Rattle.spec_decoder.specs.Sets.{across_of, down_of}
use Rattle.spec_stream.specs.Pictures.{IsPicture}
use Rattle.spec_film.specs.Cropping.{cropped}
use Rattle.spec_slice_payload.specs.Layer as layer
use Rattle.spec_decoder.specs.Pictures.{shown_planes, decode_by, read_by}
use Rattle.spec_pictures.specs.Coded.{CodedSlice, AllCover, slices_in, picture_units, stream_of, shown_of, slices_of_each}
use Rattle.spec_pictures.proofs.Idr.{idr_streams_decode, idr_streams_are_read}
use Rattle.spec_encoding.specs.Coding.{coded_picture}
use Rattle.spec_encoding.specs.Encoding.{sequence_of, settled, with_payload, coded_with_payloads, encoded_picture, encoded_pictures, reconstructed, reconstruction}
use Rattle.spec_encoding.proofs.Whole.{is_sequence, coded_pictures_cover}
use Rattle.spec_encoding.proofs.Covering.{lead_of}
use Rattle.spec_headers.specs.Heads.{idr_head}
use Rattle.spec_lists.specs.Heads.{is_other}
use Rattle.spec_decoder.specs.Macroblocks.{Slice, format_of, of_records}
use Rattle.spec_decoder.specs.Frames.{picture_made, frames, decode, slices_read}
use Rattle.spec_decoding.specs.Encodings.{coded_pictures}

-- ---- a stream

-- the slices of a picture, as they are read
slices_are : (f : layer.Format) (ss : List layer.Slice) → slices_in (map (with_payload f) ss) ≡ map of_records ss
slices_are f [] = refl
slices_are f (s ∷ ss) = ap (λ (rest : List Slice). of_records s ∷ rest) (slices_are f ss)

-- the slices of the pictures from this number on
all_coded : FilmHead → Settings → ℕ → List Planes → List (List (CodedSlice Slice))
all_coded h s number [] = []
all_coded h s number (p ∷ ps) = coded_with_payloads h s number p ∷ all_coded h s (number + 1) ps

stream_is : (h : FilmHead) (s : Settings) (number : ℕ) (pictures : List Planes) → encoded_pictures h s number pictures ≡ stream_of (sequence_of h) (true, s.t8x8) (all_coded h s number pictures)
unfolding encoded_pictures encoded_picture stream_of all_coded
stream_is h s number [] = refl
stream_is h s number (p ∷ ps) =
    ap (λ (rest : List ℕ). picture_units (sequence_of h) (true, s.t8x8) (coded_with_payloads h s number p) ++ rest) (stream_is h s (number + 1) ps)

-- what holds of the settings
record AreSet (h : FilmHead) (s : Settings) : Type 0 where
  allowed : AllowedHead h
  qp : s.qp ≤ 51
  some : 1 ≤ s.slices
  few : s.slices ≤ (h.height + 15) / 16

-- the numbers of IDR pictures alternate
others : (a b : ℕ) → a + b ≡ 1 → not (a == b) ≡ true
others a b e = grind (arith, nat_tests)

pub alternate : (n : ℕ) → is_other (Some ((n + 1) % 2)) (Some (n % 2)) ≡ true
alternate n = others (n % 2) ((n + 1) % 2) (omega arith)

all_cover : (h : FilmHead) (s : Settings) (number : ℕ) (before : Option ℕ) (pictures : List Planes) → AreSet h s → is_other (Some (number % 2)) before ≡ true → All (IsPicture h) pictures
    → AllCover frames (sequence_of h) (true, s.t8x8) before (all_coded h s number pictures)
unfolding all_coded idr_head
all_cover h s number before [] set other are = tt
all_cover h s number before (p ∷ ps) set other are = (
  lead_of (settled h s) number,
  (
    record {
      covers = coded_pictures_cover h s number p set.allowed set.qp set.some set.few (All-head (IsPicture h) p ps are);
      other = other;
    },
    all_cover h s (number + 1) (Some (number % 2)) ps set (alternate number) (All-tail (IsPicture h) p ps are),
  ),
)

picture_is : (h : FilmHead) (s : Settings) (number : ℕ) (p : Planes) → shown_planes (sequence_of h) (frames.planes (sequence_of h) [] (slices_in (coded_with_payloads h s number p))) ≡ reconstructed h s number p
unfolding coded_with_payloads reconstructed
picture_is h s number p =
    let q : SeqHead = sequence_of h in
    ap (λ (slices : List Slice). cropped (across_of q) q.width q.height (picture_made (across_of q) (down_of q) [] slices)) (slices_are (format_of q s.t8x8) (coded_picture (settled h s) number p))

shown_is : (h : FilmHead) (s : Settings) (number : ℕ) (pictures : List Planes) → shown_of frames (sequence_of h) (all_coded h s number pictures) ≡ reconstruction h s number pictures
unfolding all_coded reconstruction
shown_is h s number [] = refl
shown_is h s number (p ∷ ps) = ap₂ (λ (q : Planes) (rest : List Planes). q ∷ rest) (picture_is h s number p) (shown_is h s (number + 1) ps)

read_is : (h : FilmHead) (s : Settings) (number : ℕ) (pictures : List Planes) → slices_of_each (all_coded h s number pictures) ≡ coded_pictures h s number pictures
unfolding all_coded coded_with_payloads coded_pictures
read_is h s number [] = refl
read_is h s number (p ∷ ps) =
    ap₂ (λ (slices : List Slice) (rest : List (List Slice)). slices ∷ rest) (slices_are (format_of (sequence_of h) s.t8x8) (coded_picture (settled h s) number p)) (read_is h s (number + 1) ps)

pub encodings_decode : (h : FilmHead) (s : Settings) (pictures : List Planes) → AllowedHead h → s.qp ≤ 51 → 1 ≤ s.slices → s.slices ≤ (h.height + 15) / 16 → All (IsPicture h) pictures
    → decode (encoded_pictures h s 0 pictures) ≡ Some (reconstruction h s 0 pictures)
unfolding decode
encodings_decode h s pictures allowed qp some few are =
    ap (λ (bytes : List ℕ). decode_by frames bytes) (stream_is h s 0 pictures)
    ∙ idr_streams_decode frames (sequence_of h) (true, s.t8x8) (all_coded h s 0 pictures) (is_sequence h allowed) (lit< tt)
    (all_cover h s 0 None pictures (record { allowed = allowed; qp = qp; some = some; few = few }) refl are)
    ∙ ap (λ (ps : List Planes). Some ps) (shown_is h s 0 pictures)

pub encodings_are_read : (h : FilmHead) (s : Settings) (pictures : List Planes) → AllowedHead h → s.qp ≤ 51 → 1 ≤ s.slices → s.slices ≤ (h.height + 15) / 16 → All (IsPicture h) pictures
    → slices_read (encoded_pictures h s 0 pictures) ≡ Some (coded_pictures h s 0 pictures)
unfolding slices_read
encodings_are_read h s pictures allowed qp some few are =
    ap (λ (bytes : List ℕ). read_by frames bytes) (stream_is h s 0 pictures)
    ∙ idr_streams_are_read frames (sequence_of h) (true, s.t8x8) (all_coded h s 0 pictures) (is_sequence h allowed) (lit< tt)
    (all_cover h s 0 None pictures (record { allowed = allowed; qp = qp; some = some; few = few }) refl are)
    ∙ ap (λ (slices : List (List Slice)). Some slices) (read_is h s 0 pictures)
