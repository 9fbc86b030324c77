-- The payloads of parameter sets, and units one behind another.
use Rattle.std.proofs.Common.{ℕ, ◌+◌, ◌%◌, ◌≡◌, ◌≤◌, List, [], ◌++◌, length, Bool, true, false, Result, refl, ap, sym, ◌∙◌, subst, arith, length-append, append_assoc}
use Rattle.spec_bits.specs.declared.fields.Field.{Field}
use Rattle.spec_bits.specs.Bits.{digits, bits_of_bytes, bytes_of_bits}
use Rattle.spec_bits.specs.Golomb.{trail_bits}
use Rattle.spec_bits.specs.Fields.{fields_bits}
use Rattle.spec_headers.specs.HeadFields.{slice_head_bits, payload_of, sequence_fields, sequence_payload, picture_fields, picture_payload}
use Rattle.spec_bits.specs.Units.{EndsWell}
use Rattle.spec_bits.proofs.Codes.{length-trail_bits, trail_whole}
use Rattle.spec_bits.proofs.Digits.{length-digits, bits_of_bytes-append}
use Rattle.spec_film.specs.declared.FilmHead.{FilmHead}
use Rattle.spec_film.specs.Films.{Planes}
use Rattle.spec_stream.specs.Stored.{stored_picture, stored_sequence, stored_slice_bits, stored_slice_head, pcm_slice_bits, macroblocks_of, mbs_across, mbs_down}
use Rattle.spec_bits.specs.Units.{unit_bytes}
use Rattle.spec_stream.proofs.Ends.{ends_in_128, ends_in_trail}
use Rattle.bit_strings.specs.BitText.{BitText, Appends}
use Rattle.stored_picture.proofs.Fits.{appended, appended_first}
use Rattle.stored_picture.proofs.BlockText.{with_more, more_both}

-- fields and trailing bits were written into an empty buffer
pub record HeadMade (fields : List Field) (old new : BitText) : Type 0 where
  pub text : new.text ≡ fields_bits fields ++ trail_bits (length (fields_bits fields))
  pub room : new.room ≡ old.room
  pub whole : length new.text % 8 ≡ 0

pub head_made : {E F : Type 0} (fields : List Field) (a b c : BitText) (r : Result (Unit {0}) E) (q : Result (Unit {0}) F) → a.text ≡ [] → length (fields_bits fields) ≤ 3175 → 4096 ≤ a.room
    → Appends a b (fields_bits fields) r → Appends b c (trail_bits (length b.text)) q → HeadMade fields a c
head_made fields a b c r q empty short room first second =
    let bits = fields_bits fields in
    let hb : b ≡ record a { text = bits } = appended_first a b bits r empty first (omega arith) in
    let len : length b.text ≡ length bits = ap (λ (x : BitText). length x.text) hb in
    let same : b.room ≡ a.room = ap (λ (x : BitText). x.room) hb in
    let hc : c ≡ with_more b (trail_bits (length b.text)) = appended b c (trail_bits (length b.text)) q second (omega (arith, length-trail_bits (length b.text))) in
    let text : c.text ≡ bits ++ trail_bits (length bits) = ap (λ (x : BitText). x.text) hc ∙ ap (λ (x : BitText). x.text ++ trail_bits (length x.text)) hb in
    record {
      text = text;
      room = ap (λ (x : BitText). x.room) hc ∙ same;
      whole = ap (λ xs. length xs % 8) text ∙ ap (λ n. n % 8) (length-append bits (trail_bits (length bits))) ∙ trail_whole (length bits);
    }

-- the bytes of such a buffer
pub payload_is : (fields : List Field) (old new : BitText) (bytes : List ℕ) → HeadMade fields old new → bytes ≡ bytes_of_bits new.text → bytes ≡ payload_of fields
payload_is fields old new bytes made is = is ∙ ap bytes_of_bits made.text

pub payload_ends : (fields : List Field) (bytes : List ℕ) → bytes ≡ payload_of fields → EndsWell bytes
payload_ends fields bytes is = subst EndsWell (sym is) (ends_in_trail (fields_bits fields))

pub sequence_is : (h : FilmHead) → payload_of (sequence_fields (stored_sequence h)) ≡ sequence_payload (stored_sequence h)
unfolding sequence_payload
sequence_is h = refl

pub picture_is : payload_of (picture_fields false false) ≡ picture_payload false false
unfolding picture_payload
picture_is = refl

-- the three units are the access unit
pub picture_text : (h : FilmHead) (number : ℕ) (p : Planes) (a b c d : BitText) → a.text ≡ []
    → b ≡ with_more a (bits_of_bytes (unit_bytes true 3 7 (sequence_payload (stored_sequence h))))
    → c ≡ with_more b (bits_of_bytes (unit_bytes true 3 8 (picture_payload false false)))
    → d ≡ with_more c (bits_of_bytes (unit_bytes false 3 5 (bytes_of_bits (stored_slice_bits (mbs_across h) (mbs_down h) number p))))
    → d ≡ record a { text = bits_of_bytes (stored_picture h number p) }
unfolding stored_picture
picture_text h number p a b c d empty hb hc hd =
    let s = unit_bytes true 3 7 (sequence_payload (stored_sequence h)) in
    let q = unit_bytes true 3 8 (picture_payload false false) in
    let v = unit_bytes false 3 5 (bytes_of_bits (stored_slice_bits (mbs_across h) (mbs_down h) number p)) in
    more_both a b d (bits_of_bytes s) (bits_of_bytes q ++ bits_of_bytes v) hb (more_both b c d (bits_of_bytes q) (bits_of_bytes v) hc hd)
    ∙ ap (with_more a) (ap (λ xs. bits_of_bytes s ++ xs) (sym (bits_of_bytes-append q v)) ∙ sym (bits_of_bytes-append s (q ++ v)))
    ∙ ap (λ (xs : List Bool). let r : BitText = record a { text = xs ++ bits_of_bytes (s ++ (q ++ v)) } in r) empty

-- the slice's payload ends in its trailing bits
pub slice_ends : (across down number : ℕ) (p : Planes) (bytes : List ℕ) (text : List Bool) → length text % 8 ≡ 0 → text ≡ stored_slice_bits across down number p → bytes ≡ bytes_of_bits text → EndsWell bytes
unfolding stored_slice_bits
slice_ends across down number p bytes text whole is shown =
    let head = slice_head_bits (stored_slice_head number) in
    let rows = pcm_slice_bits (length head) (macroblocks_of across down p) in
    let same : text ≡ (head ++ rows) ++ digits 8 128 = is ∙ sym (append_assoc head rows (digits 8 128)) in
    let len : length text ≡ length (head ++ rows) + length (digits 8 128) = ap length same ∙ length-append (head ++ rows) (digits 8 128) in
    subst EndsWell (sym (shown ∙ ap bytes_of_bits same)) (ends_in_128 (head ++ rows) (omega (arith, len, length-digits 8 128)))
