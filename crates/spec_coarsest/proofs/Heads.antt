-- The header of a slice is short, whatever it says.
use Rattle.std.proofs.Common.{ℕ, zero, suc, ◌≡◌, ◌+◌, ◌-◌, ◌<◌, ◌≤◌, Bool, true, false, List, [], ◌∷◌, ◌++◌, length, Option, Some, None, refl, arith, length-append}
use Rattle.std.specs.Prelude.{cond, nat_lt, replicate, if◌then◌else◌}
use Rattle.std.specs.Int.Count.{count_leading_zeros}
use Rattle.std.proofs.lemmas.List.{length-replicate}
use Rattle.std.proofs.lemmas.Bool.{ltb-true}
use Rattle.enc_tables.specs.declared.records.SliceKind.{SliceKind}
use Rattle.enc_tables.specs.declared.records.SliceKind.TheVariants.{I, P, B}
use Rattle.spec_bits.specs.declared.fields.Field.{Field}
use Rattle.spec_bits.specs.declared.fields.Field.TheVariants.{U, Ue, Se}
use Rattle.spec_bits.specs.Bits.{digits}
use Rattle.spec_bits.specs.Golomb.{digit_count, signed_place, ue_bits, se_bits, to_byte}
use Rattle.spec_bits.specs.Fields.{field_bits, fields_bits}
use Rattle.spec_bits.proofs.Digits.{length-digits}
use Rattle.spec_bits.proofs.FieldLists.{fields_bits-none, fields_bits-cons}
use Rattle.spec_headers.specs.declared.heads.SliceHead.{SliceHead}
use Rattle.spec_headers.specs.Heads.{kind_number}
use Rattle.spec_headers.specs.HeadFields.{place_fields, moved_fields, list_fields, marking_fields, init_fields, qp_field, slice_fields, slice_head_bits}

-- ---- codes

-- a code has fewer than twice 64 bits, and that of a number below 8 at most 7
code_fits : (v : ℕ) → length (ue_bits v) ≤ 127
unfolding ue_bits
code_fits v =
    let n : ℕ = digit_count (v + 1) in
    let small : n ≤ 64 = omega arith in
    omega (arith, small, length-append (replicate (n - 1) false) (digits n (v + 1)), length-replicate (n - 1) false, length-digits n (v + 1))

code_small : (v : ℕ) → v < 8 → length (ue_bits v) ≤ 7
unfolding ue_bits count_leading_zeros digits
code_small zero h = omega arith
code_small (suc zero) h = omega arith
code_small (suc (suc zero)) h = omega arith
code_small (suc (suc (suc zero))) h = omega arith
code_small (suc (suc (suc (suc zero)))) h = omega arith
code_small (suc (suc (suc (suc (suc zero))))) h = omega arith
code_small (suc (suc (suc (suc (suc (suc zero)))))) h = omega arith
code_small (suc (suc (suc (suc (suc (suc (suc zero))))))) h = omega arith
code_small (suc (suc (suc (suc (suc (suc (suc (suc v)))))))) h = absurd (omega arith)

-- ---- fields

-- at most so many bits
abbrev room : Field → ℕ
room (U n v) = n
room (Ue v) = cond (nat_lt v 8) 7 127
room (Se v) = 127

abbrev rooms : List Field → ℕ
rooms [] = 0
rooms (f ∷ fields) = room f + rooms fields

code_most : (v : ℕ) → length (ue_bits v) ≤ cond (nat_lt v 8) 7 127
code_most v = go (nat_lt v 8) refl
  where
    go : (t : Bool) → nat_lt v 8 ≡ t → length (ue_bits v) ≤ cond t 7 127
    go true e = code_small v (ltb-true v 8 e)
    go false e = code_fits v

field_most : (f : Field) → length (field_bits f) ≤ room f
unfolding se_bits
field_most (U n v) = omega (arith, length-digits n v)
field_most (Ue v) = code_most v
field_most (Se v) = code_fits (signed_place v)

fields_most : (fields : List Field) → length (fields_bits fields) ≤ rooms fields
fields_most [] = rw fields_bits-none (omega arith)
fields_most (f ∷ fields) = rw (fields_bits-cons f fields) (omega (arith, length-append (field_bits f) (fields_bits fields), field_most f, fields_most fields))

rooms-append : (xs ys : List Field) → rooms (xs ++ ys) ≡ rooms xs + rooms ys
rooms-append [] ys = omega arith
rooms-append (f ∷ xs) ys = omega (arith, rooms-append xs ys)

-- ---- the parts of a header

few : (v : ℕ) → room (Ue v) ≤ 127
few v = go (nat_lt v 8)
  where
    go : (t : Bool) → cond t 7 127 ≤ 127
    go true = omega arith
    go false = omega arith

place_most : (h : SliceHead) → rooms (place_fields h) ≤ 300
unfolding place_fields
place_most h = go h.kind h.idr
  where
    go : (kind : SliceKind) (idr : Bool) → rooms (Ue h.first_mb ∷ Ue (kind_number kind) ∷ Ue 0 ∷ U 16 h.frame_num ∷ ((if idr then Ue h.idr_id ∷ [] else []) ++ (U 16 h.poc ∷ []))) ≤ 300
    go I true = omega (arith, few h.first_mb, few h.idr_id)
    go P true = omega (arith, few h.first_mb, few h.idr_id)
    go B true = omega (arith, few h.first_mb, few h.idr_id)
    go I false = omega (arith, few h.first_mb)
    go P false = omega (arith, few h.first_mb)
    go B false = omega (arith, few h.first_mb)

moved_most : (moved : Option ℕ) → rooms (moved_fields moved) ≤ 142
moved_most None = omega arith
moved_most (Some difference) = omega (arith, few difference)

lists_most : (kind : SliceKind) (refs0 refs1 : ℕ) (moved : Option ℕ) → rooms (list_fields kind refs0 refs1 moved) ≤ 399
unfolding list_fields
lists_most I refs0 refs1 moved = omega arith
lists_most P refs0 refs1 moved = omega (arith, few (refs0 - 1), moved_most moved)
lists_most B refs0 refs1 moved = omega (arith, few (refs0 - 1), few (refs1 - 1), moved_most moved, rooms-append (moved_fields moved) (U 1 0 ∷ []))

marking_most : (idr : Bool) (kind : SliceKind) → rooms (marking_fields idr kind) ≤ 2
unfolding marking_fields
marking_most true kind = omega arith
marking_most false I = omega arith
marking_most false P = omega arith
marking_most false B = omega arith

init_most : (cabac : Bool) (kind : SliceKind) → rooms (init_fields cabac kind) ≤ 7
unfolding init_fields
init_most false kind = omega arith
init_most true I = omega arith
init_most true P = omega arith
init_most true B = omega arith

header_most : (h : SliceHead) → length (fields_bits (slice_fields h)) ≤ 835
unfolding slice_fields
header_most h =
    let place = place_fields h in
    let lists = list_fields h.kind h.refs0 h.refs1 h.moved in
    let marking = marking_fields h.idr h.kind in
    let init = init_fields h.cabac h.kind in
    let last : List Field = qp_field h.qp ∷ [] in
    omega (
      arith,
      fields_most (place ++ (lists ++ (marking ++ (init ++ last)))),
      rooms-append place (lists ++ (marking ++ (init ++ last))),
      rooms-append lists (marking ++ (init ++ last)),
      rooms-append marking (init ++ last),
      rooms-append init last,
      place_most h,
      lists_most h.kind h.refs0 h.refs1 h.moved,
      marking_most h.idr h.kind,
      init_most h.cabac h.kind,
    )

-- with ones to the byte
pub head_most : (h : SliceHead) → length (slice_head_bits h) ≤ 842
unfolding slice_head_bits
head_most h = go h.cabac (fields_bits (slice_fields h)) (header_most h)
  where
    go : (cabac : Bool) (bits : List Bool) → length bits ≤ 835 → length (if cabac then bits ++ replicate (to_byte (length bits)) true else bits) ≤ 842
    go true bits small = omega (arith, small, length-append bits (replicate (to_byte (length bits)) true), length-replicate (to_byte (length bits)) true)
    go false bits small = omega (arith, small)
