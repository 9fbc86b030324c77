-- Parameter sets and the slices of a stored stream are read back.
use Rattle.std.proofs.Common.{ℕ, ◌+◌, ◌-◌, ◌*◌, ◌%◌, ◌≡◌, ◌≤◌, ◌<◌, List, ◌∷◌, ◌++◌, length, replicate, Bool, true, false, cond, Some, None, ap, ap₂, sym, ◌∙◌, subst, arith, append_assoc, length-append, mul-pos, lit<}
use Rattle.std.specs.Prelude.{◌&&◌, nat_le, option_and_then}
use Rattle.std.specs.Option.{option_map}
use Rattle.std.proofs.lemmas.Bool.Decides.{nat_tests}
use Rattle.std.proofs.lemmas.List.{length-replicate}
use Rattle.spec_headers.specs.declared.heads.SliceHead.{SliceHead}
use Rattle.spec_bits.specs.Bits.{digits, bytes_of_bits}
use Rattle.spec_bits.specs.Golomb.{trail_bits}
use Rattle.spec_headers.specs.HeadFields.{slice_head_bits}
use Rattle.spec_headers.specs.Allowed.{IsSeqHead}
use Rattle.spec_bits.specs.Units.{EndsWell}
use Rattle.spec_bits.proofs.Digits.{length-digits, bits_of_bytes-bytes_of_bits}
use Rattle.spec_bits.proofs.Codes.{trail_whole}
use Rattle.spec_reading.specs.Reader.{Reader, Reads, read}
use Rattle.spec_headers.specs.HeadReaders.{idr_slice}
use Rattle.spec_headers.specs.Heads.{idr_head}
use Rattle.spec_headers.proofs.HeadLaws.{reads_idr_slice}
use Rattle.spec_film.specs.declared.FilmHead.{FilmHead}
use Rattle.spec_film.specs.Films.{Planes, AllowedHead}
use Rattle.spec_stream.specs.Stored.{pcm_slice_bits, macroblocks_of, mbs_across, mbs_down, stored_sequence, stored_slice_head, stored_slice_bits}
use Rattle.spec_stream.specs.Pictures.{IsPicture}
use Rattle.spec_decoder.specs.Sets.{is_trail, ended, read_set}
use Rattle.spec_decoder.specs.Pcm.{with_macroblocks, read_pcm_slice}
use Rattle.spec_stream.proofs.Ends.{ends_in_128}
use Rattle.spec_stream.proofs.PcmLaws.{all_zeros, slice_whole, slice_long, pcm_macroblocks-back}
use Rattle.spec_stream.proofs.PictureLaws.{macroblocks_are, length-macroblocks_of, across_some, down_some, has_planes}

-- ---- parameter sets

trail_is : (k : ℕ) → k ≤ 7 → is_trail (true ∷ replicate k false) ≡ true
trail_is k few = ap₂ (λ a b. a && b) (all_zeros k) (short (length (replicate k false)) (length-replicate k false))
  where
    short : (n : ℕ) → n ≡ k → nat_le n 7 ≡ true
    short n e = grind (arith, nat_tests)

is_trail-bits : (n : ℕ) → is_trail (trail_bits n) ≡ true
unfolding trail_bits
is_trail-bits n = trail_is (7 - n % 8) (omega arith)

-- fields that are read are all that a parameter set has
pub read_set-back : {A : Type 0} (f : Reader A) (bits : List Bool) (v : A) → Reads f bits v → read_set f (bytes_of_bits (bits ++ trail_bits (length bits))) ≡ Some v
unfolding read_set
read_set-back f bits v reads =
    ap (λ all. option_and_then ended (read f all)) (bits_of_bytes-bytes_of_bits (bits ++ trail) (ap (λ n. n % 8) (length-append bits trail) ∙ trail_whole (length bits)))
    ∙ ap (λ o. option_and_then ended o) (reads.back trail)
    ∙ ap (λ b. cond b (Some v) None) (is_trail-bits (length bits))
  where
    trail : List Bool
    trail = trail_bits (length bits)

pub sequence_allowed : (h : FilmHead) → AllowedHead h → IsSeqHead (stored_sequence h)
sequence_allowed h allowed = record {
  width_from = allowed.width_least;
  width_to = allowed.width_most;
  width_even = allowed.width_even;
  height_from = allowed.height_least;
  height_to = allowed.height_most;
  height_even = allowed.height_even;
  refs_from = lit< tt;
  refs_to = lit< tt;
  timing = tt;
}

-- ---- slices

head_reads : (number : ℕ) → Reads (idr_slice false) (slice_head_bits (stored_slice_head number)) (stored_slice_head number)
unfolding slice_head_bits idr_head
head_reads number = reads_idr_slice 0 0 (number % 2) 0 26 false (lit< tt) (lit< tt) (omega arith) (lit< tt) (lit< tt)

-- the slice of a picture is whole bytes
slice_bits_whole : (across down number : ℕ) (p : Planes) → 0 < across * down → length (stored_slice_bits across down number p) % 8 ≡ 0
unfolding stored_slice_bits
slice_bits_whole across down number p some =
    ap (λ n. n % 8) (length-append head (body ++ digits 8 128) ∙ ap (λ n. length head + n) (length-append body (digits 8 128) ∙ ap (λ n. length body + n) (length-digits 8 128)))
    ∙ eight (length head) (length body) (slice_whole (length head) ms (subst (λ n. 0 < n) (sym (length-macroblocks_of across down p)) some))
  where
    head : List Bool
    head = slice_head_bits (stored_slice_head number)

    ms : List (List ℕ)
    ms = macroblocks_of across down p

    body : List Bool
    body = pcm_slice_bits (length head) ms

    eight : (a b : ℕ) → (a + b) % 8 ≡ 0 → (a + (b + 8)) % 8 ≡ 0
    eight a b h = omega arith

abbrev pub stored_payload : FilmHead → ℕ → Planes → List ℕ
stored_payload h number p = bytes_of_bits (stored_slice_bits (mbs_across h) (mbs_down h) number p)

pub slice_back : (h : FilmHead) (number : ℕ) (p : Planes) → AllowedHead h → IsPicture h p
    → read_pcm_slice (stored_payload h number p) ≡ Some (stored_slice_head number, macroblocks_of (mbs_across h) (mbs_down h) p)
unfolding read_pcm_slice stored_slice_bits
slice_back h number p allowed is =
    ap (λ bits. option_and_then with_macroblocks (read (idr_slice false) bits)) (bits_of_bytes-bytes_of_bits (head ++ (body ++ digits 8 128)) (slice_bits_whole (mbs_across h) (mbs_down h) number p (mul-pos (across_some h allowed) (down_some h allowed))))
    ∙ ap (λ o. option_and_then with_macroblocks o) ((head_reads number).back (body ++ digits 8 128))
    ∙ ap (λ o. option_map made o) (pcm_macroblocks-back (length (body ++ digits 8 128)) (length head) ms enough (macroblocks_are (mbs_across h) (mbs_down h) p (across_some h allowed) (has_planes h p is) is.luma_bytes is.cb_bytes is.cr_bytes))
  where
    head : List Bool
    head = slice_head_bits (stored_slice_head number)

    ms : List (List ℕ)
    ms = macroblocks_of (mbs_across h) (mbs_down h) p

    body : List Bool
    body = pcm_slice_bits (length head) ms

    made : List (List ℕ) → SliceHead × List (List ℕ)
    made ms = (stored_slice_head number, ms)

    enough : length ms < length (body ++ digits 8 128)
    enough = omega (arith, length-append body (digits 8 128), length-digits 8 128, slice_long (length head) ms)

pub slice_ends : (h : FilmHead) (number : ℕ) (p : Planes) → AllowedHead h → EndsWell (stored_payload h number p)
unfolding stored_slice_bits
slice_ends h number p allowed = subst (λ bits. EndsWell (bytes_of_bits bits)) (append_assoc head body (digits 8 128)) (ends_in_128 (head ++ body) whole)
  where
    head : List Bool
    head = slice_head_bits (stored_slice_head number)

    ms : List (List ℕ)
    ms = macroblocks_of (mbs_across h) (mbs_down h) p

    body : List Bool
    body = pcm_slice_bits (length head) ms

    whole : length (head ++ body) % 8 ≡ 0
    whole = ap (λ n. n % 8) (length-append head body) ∙ slice_whole (length head) ms (subst (λ n. 0 < n) (sym (length-macroblocks_of (mbs_across h) (mbs_down h) p)) (mul-pos (across_some h allowed) (down_some h allowed)))
