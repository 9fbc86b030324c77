-- How long heads are at most.
use Rattle.std.proofs.Common.{ℕ, suc, ◌+◌, ◌-◌, ◌*◌, ◌/◌, ◌%◌, ◌≡◌, ◌≤◌, List, [], ◌∷◌, ◌++◌, length, replicate, Bool, true, false, cond, refl, ap, sym, ◌∙◌, subst, arith, length-append, lit≤}
use Rattle.std.specs.Prelude.{◌&&◌, ◌==◌, nat_le}
use Rattle.std.specs.List.{list_all}
use Rattle.std.proofs.lemmas.Bool.{leb-true}
use Rattle.std.proofs.lemmas.Grind.{common_steps}
use Rattle.spec_bits.specs.declared.fields.Field.{Field}
use Rattle.spec_bits.specs.declared.fields.Field.TheVariants.{U, Ue, Se}
use Rattle.spec_bits.specs.Bits.{digits}
use Rattle.spec_bits.specs.Golomb.{digit_count, ue_bits, se_bits, signed_place, trail_bits}
use Rattle.spec_bits.specs.Fields.{field_bits, fields_bits}
use Rattle.spec_headers.specs.HeadFields.{flag, padding, cropping_fields, usability_fields, sequence_fields, format_fields, place_fields, picture_fields, slice_fields, list_fields, marking_fields, init_fields, slice_head_bits, sequence_payload, picture_payload, payload_of}
use Rattle.spec_bits.proofs.Digits.{length-digits, length-bytes_of_bits}
use Rattle.spec_bits.proofs.Codes.{length-trail_bits, trail_whole}
use Rattle.spec_film.specs.declared.FilmHead.{FilmHead}
use Rattle.spec_stream.specs.Stored.{stored_sequence, stored_slice_head}
use Rattle.spec_stream.proofs.Ends.{length-escape}
use Rattle.spec_bits.specs.Units.{escape, header_byte, start_code, unit_bytes}

length-ue_bits : (v : ℕ) → length (ue_bits v) ≤ 127
unfolding ue_bits
length-ue_bits v =
    subst (λ n. n ≤ 127) (sym (length-append (replicate (digit_count (v + 1) - 1) false) (digits (digit_count (v + 1)) (v + 1))))
    (omega (arith, zeros (digit_count (v + 1) - 1), length-digits (digit_count (v + 1)) (v + 1)))
  where
    zeros : (n : ℕ) → length (replicate n false) ≡ n
    zeros n = grind (arith, common_steps)

is_short : Field → Bool
is_short (U n v) = nat_le n 127
is_short (Ue v) = true
is_short (Se v) = true

length-field_bits : (f : Field) → is_short f ≡ true → length (field_bits f) ≤ 127
unfolding is_short se_bits
length-field_bits (U n v) short = let h : n ≤ 127 = leb-true n 127 short in omega (arith, h, length-digits n v)
length-field_bits (Ue v) short = length-ue_bits v
length-field_bits (Se v) short = length-ue_bits (signed_place v)

and_first : (a b : Bool) → (a && b) ≡ true → (a ≡ true) × (b ≡ true)
and_first true b e = (refl, e)
and_first false b e = absurd (cc)

length-fields_bits : (fields : List Field) → list_all is_short fields ≡ true → length (fields_bits fields) ≤ 127 * length fields
unfolding fields_bits
length-fields_bits [] short = omega arith
length-fields_bits (f ∷ fields) short =
    let p = and_first (is_short f) (list_all is_short fields) short in
    let a = length-field_bits f p.0 in
    let b = length-fields_bits fields p.1 in
    subst (λ n. n ≤ 127 * length (f ∷ fields)) (sym (length-append (field_bits f) (fields_bits fields))) (omega (arith, a, b))

crop_few : (w h : ℕ) → (list_all is_short (cropping_fields w h ++ (flag false ∷ [])) ≡ true) × (length (cropping_fields w h ++ (flag false ∷ [])) ≤ 6)
unfolding is_short cropping_fields
crop_few w h = go ((padding w == 0) && (padding h == 0))
  where
    go : (whole : Bool) → let fields = cond whole (flag false ∷ []) (flag true ∷ Ue 0 ∷ Ue (padding w / 2) ∷ Ue 0 ∷ Ue (padding h / 2) ∷ []) ++ (flag false ∷ []) in
        (list_all is_short fields ≡ true) × (length fields ≤ 6)
    go true = (refl, lit≤ tt)
    go false = (refl, lit≤ tt)

-- the fields of a stored stream's sequence parameter set
sequence_few : (h : FilmHead) → (list_all is_short (sequence_fields (stored_sequence h)) ≡ true) × (length (sequence_fields (stored_sequence h)) ≤ 25)
unfolding is_short sequence_fields format_fields usability_fields
sequence_few h = let c = crop_few h.width h.height in (c.0, few (length (cropping_fields h.width h.height ++ (flag false ∷ []))) c.1)
  where
    few : (n : ℕ) → n ≤ 6 → suc (suc (suc (suc (suc (suc (suc (suc (suc (suc (suc (suc (suc (suc (suc (suc (suc (suc n))))))))))))))))) ≤ 25
    few n h = omega arith

picture_few : (list_all is_short (picture_fields false false) ≡ true) × (length (picture_fields false false) ≤ 25)
unfolding is_short picture_fields
picture_few = (refl, lit≤ tt)

slice_few : (n : ℕ) → (list_all is_short (slice_fields (stored_slice_head n)) ≡ true) × (length (slice_fields (stored_slice_head n)) ≤ 25)
unfolding is_short slice_fields place_fields list_fields marking_fields init_fields
slice_few n = (refl, lit≤ tt)

payload_short : (fields : List Field) → list_all is_short fields ≡ true → length fields ≤ 25 → length (payload_of fields) ≤ 400
payload_short fields short few =
    let bits = fields_bits fields in
    let l = length-fields_bits fields short in
    let t = length-trail_bits (length bits) in
    let w : length (bits ++ trail_bits (length bits)) % 8 ≡ 0 = ap (λ n. n % 8) (length-append bits (trail_bits (length bits))) ∙ trail_whole (length bits) in
    let b = length-bytes_of_bits (bits ++ trail_bits (length bits)) w in
    omega (arith, l, t, b, length-append bits (trail_bits (length bits)))

pub length-sequence_payload : (h : FilmHead) → length (sequence_payload (stored_sequence h)) ≤ 400
unfolding sequence_payload
length-sequence_payload h = let f = sequence_few h in payload_short (sequence_fields (stored_sequence h)) f.0 f.1

pub length-picture_payload : length (picture_payload false false) ≤ 400
unfolding picture_payload
length-picture_payload = let f = picture_few in payload_short (picture_fields false false) f.0 f.1

pub length-slice_head_bits : (n : ℕ) → length (slice_head_bits (stored_slice_head n)) ≤ 3175
unfolding slice_head_bits
length-slice_head_bits n = let f = slice_few n in let l = length-fields_bits (slice_fields (stored_slice_head n)) f.0 in let m = f.1 in omega arith

pub length-sequence_fields : (h : FilmHead) → length (fields_bits (sequence_fields (stored_sequence h))) ≤ 3175
length-sequence_fields h = let f = sequence_few h in let l = length-fields_bits (sequence_fields (stored_sequence h)) f.0 in let m = f.1 in omega arith

pub length-picture_fields : length (fields_bits (picture_fields false false)) ≤ 3175
length-picture_fields = let f = picture_few in let l = length-fields_bits (picture_fields false false) f.0 in let m = f.1 in omega arith

-- at most one byte 03 for two bytes of the payload
pub length-unit_bytes : (long : Bool) (ref_idc kind : ℕ) (payload : List ℕ) → length (unit_bytes long ref_idc kind payload) ≤ 5 + length payload + length payload / 2
unfolding unit_bytes
length-unit_bytes long ref_idc kind payload =
    let e = length-escape 0 payload in
    let a = length-append (start_code long) (header_byte ref_idc kind ∷ escape 0 payload) in
    omega (arith, e, a, start long)
  where
    start : (long : Bool) → length (start_code long) ≤ 4
    start true = lit≤ tt
    start false = lit≤ tt
