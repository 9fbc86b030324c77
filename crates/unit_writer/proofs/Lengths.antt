-- How long the payloads are at most.
use Rattle.std.proofs.Common.{ℕ, ◌+◌, ◌-◌, ◌*◌, ◌/◌, ◌≡◌, ◌≤◌, List, [], ◌∷◌, ◌++◌, length, replicate, Bool, true, false, cond, Option, Some, None, refl, sym, subst, arith, length-append, lit≤}
use Rattle.std.specs.Prelude.{◌&&◌, ◌==◌, nat_le}
use Rattle.std.specs.List.{list_all}
use Rattle.std.proofs.lemmas.Bool.{leb-true}
use Rattle.std.proofs.lemmas.Grind.{common_steps}
use Rattle.spec_bits.specs.declared.fields.Field.{Field}
use Rattle.spec_bits.specs.declared.fields.Field.TheVariants.{U, Ue, Se}
use Rattle.spec_bits.specs.Bits.{digits}
use Rattle.spec_bits.specs.Golomb.{digit_count, ue_bits, se_bits, signed_place}
use Rattle.spec_bits.specs.Fields.{field_bits, fields_bits}
use Rattle.spec_bits.proofs.Digits.{length-digits}
use Rattle.spec_headers.specs.declared.heads.SeqHead.{SeqHead}
use Rattle.spec_headers.specs.declared.heads.Timing.{Timing}
use Rattle.spec_headers.specs.HeadFields.{flag, padding, cropping_fields, usability_fields, buffer_fields, sequence_fields, format_fields, picture_fields}
use Rattle.spec_headers.specs.MessageFields.{buffering_fields, message_fields}

length-ue_bits : (v : ℕ) → length (ue_bits v) ≤ 127
unfolding ue_bits
length-ue_bits v =
    subst (λ n. n ≤ 127) (sym (length-append (replicate (digit_count (v + 1) - 1) false) (digits (digit_count (v + 1)) (v + 1))))
    (omega (arith, zeros (digit_count (v + 1) - 1), length-digits (digit_count (v + 1)) (v + 1)))
  where
    zeros : (n : ℕ) → length (replicate n false) ≡ n
    zeros n = grind (arith, common_steps)

is_short : Field → Bool
is_short (U n v) = nat_le n 127
is_short (Ue v) = true
is_short (Se v) = true

length-field_bits : (f : Field) → is_short f ≡ true → length (field_bits f) ≤ 127
unfolding is_short se_bits
length-field_bits (U n v) short = let h : n ≤ 127 = leb-true n 127 short in omega (arith, h, length-digits n v)
length-field_bits (Ue v) short = length-ue_bits v
length-field_bits (Se v) short = length-ue_bits (signed_place v)

and_first : (a b : Bool) → (a && b) ≡ true → (a ≡ true) × (b ≡ true)
and_first true b e = (refl, e)
and_first false b e = absurd (cc)

length-fields_bits : (fields : List Field) → list_all is_short fields ≡ true → length (fields_bits fields) ≤ 127 * length fields
unfolding fields_bits
length-fields_bits [] short = omega arith
length-fields_bits (f ∷ fields) short =
    let p = and_first (is_short f) (list_all is_short fields) short in
    let a = length-field_bits f p.0 in
    let b = length-fields_bits fields p.1 in
    subst (λ n. n ≤ 127 * length (f ∷ fields)) (sym (length-append (field_bits f) (fields_bits fields))) (omega (arith, a, b))

-- so many fields, none of them long
AreFew : ℕ → List Field → Type 0
AreFew n fields = (list_all is_short fields ≡ true) × (length fields ≤ n)

few_then : (a b : ℕ) (fields more : List Field) → AreFew a fields → AreFew b more → AreFew (a + b) (fields ++ more)
unfolding AreFew
few_then a b [] more few h = (h.0, let n = h.1 in omega (arith, n))
few_then a b (f ∷ fields) more few h =
    let p = and_first (is_short f) (list_all is_short fields) few.0 in
    let n = few.1 in
    (both (is_short f) (list_all is_short (fields ++ more)) p.0 (short_then fields p.1), let l = length-append fields more in let m = h.1 in omega (arith, l, m, n))
  where
    both : (x y : Bool) → x ≡ true → y ≡ true → (x && y) ≡ true
    both true y e k = k
    both false y e k = e

    short_then : (xs : List Field) → list_all is_short xs ≡ true → list_all is_short (xs ++ more) ≡ true
    short_then [] e = h.0
    short_then (x ∷ xs) e = let q = and_first (is_short x) (list_all is_short xs) e in both (is_short x) (list_all is_short (xs ++ more)) q.0 (short_then xs q.1)

crop_few : (w h : ℕ) → AreFew 5 (cropping_fields w h)
unfolding AreFew is_short cropping_fields
crop_few w h = go ((padding w == 0) && (padding h == 0))
  where
    go : (whole : Bool) → let fields = cond whole (flag false ∷ []) (flag true ∷ Ue 0 ∷ Ue (padding w / 2) ∷ Ue 0 ∷ Ue (padding h / 2) ∷ []) in
        (list_all is_short fields ≡ true) × (length fields ≤ 5)
    go true = (refl, lit≤ tt)
    go false = (refl, lit≤ tt)

usability_few : (refs : ℕ) (timing : Option Timing) → AreFew 31 (usability_fields refs timing)
unfolding AreFew is_short usability_fields buffer_fields
usability_few refs None = (refl, lit≤ tt)
usability_few refs (Some t) = (refl, lit≤ tt)

format_few : (h : SeqHead) → AreFew 18 (format_fields h)
unfolding AreFew is_short format_fields
format_few h = (refl, lit≤ tt)

picture_few : (t8x8 : Bool) → AreFew 54 (picture_fields true t8x8)
unfolding AreFew is_short picture_fields
picture_few t8x8 = (refl, lit≤ tt)

messages_few : (initial : Option ℕ) (removal output : ℕ) → AreFew 54 (message_fields initial removal output)
unfolding AreFew is_short message_fields
messages_few None removal output = (refl, lit≤ tt)
messages_few (Some delay) removal output = (refl, lit≤ tt)

sequence_few : (h : SeqHead) → AreFew 54 (sequence_fields h)
unfolding sequence_fields
sequence_few h = few_then 18 36 (format_fields h) (cropping_fields h.width h.height ++ usability_fields h.refs h.timing) (format_few h) (few_then 5 31 (cropping_fields h.width h.height) (usability_fields h.refs h.timing) (crop_few h.width h.height) (usability_few h.refs h.timing))

short_of : (fields : List Field) → AreFew 54 fields → length (fields_bits fields) ≤ 6858
unfolding AreFew
short_of fields few = let l = length-fields_bits fields few.0 in let m = few.1 in omega (arith, l, m)

pub length-sequence_fields : (h : SeqHead) → length (fields_bits (sequence_fields h)) ≤ 6858
length-sequence_fields h = short_of (sequence_fields h) (sequence_few h)

pub length-picture_fields : (t8x8 : Bool) → length (fields_bits (picture_fields true t8x8)) ≤ 6858
length-picture_fields t8x8 = short_of (picture_fields true t8x8) (picture_few t8x8)

pub length-message_fields : (initial : Option ℕ) (removal output : ℕ) → length (fields_bits (message_fields initial removal output)) ≤ 6858
length-message_fields initial removal output = short_of (message_fields initial removal output) (messages_few initial removal output)

pub length-buffering_fields : (delay : ℕ) → length (fields_bits (buffering_fields delay)) ≤ 6858
unfolding AreFew is_short
length-buffering_fields delay = short_of (buffering_fields delay) (refl, lit≤ tt)
