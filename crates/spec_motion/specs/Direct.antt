-- Spatial direct motion of a macroblock (ITU-T H.264, clause 8.4.1.2.2), with direct_8x8_inference.
use Rattle.std.specs.Prelude.{ℕ, ℤ, pos, negsuc, Bool, ◌&&◌, if◌then◌else◌, List, [], ◌∷◌, Option, None, slice_index_or, int_lt, int_le}
use Rattle.std.specs.Int.{int_max, int_min}
use Rattle.std.specs.Ordering.{int_eq}
use Rattle.enc_tables.specs.declared.records.Motion.{Motion}
use Rattle.enc_tables.specs.declared.records.Vector.{Vector}
use Rattle.enc_tables.specs.Records.{zero_vector}
use Rattle.spec_motion.specs.declared.Field.{Field}
use Rattle.spec_motion.specs.Neighbours.{reference_of, vector_of, has}
use Rattle.spec_motion.specs.Prediction.{predicted}

-- MinPositive: the lesser of two references that are used, or the one that is
abbrev pub min_positive : ℤ → ℤ → ℤ
min_positive x y = if int_le (pos 0) x && int_le (pos 0) y then int_min x y else int_max x y

-- refIdxLX: the least reference that a neighbour uses, or one below 0
abbrev pub direct_reference : ℕ → Field → ℤ
direct_reference list f =
    min_positive (reference_of list f.a) (min_positive (reference_of list f.b) (reference_of list f.c))

-- −1, 0 or 1
abbrev pub is_small : ℤ → Bool
is_small v = int_le (negsuc 0) v && int_le v (pos 1)

-- colZeroFlag: whether the co-located block has reference 0 of list 0 and a vector of at most one in each component
abbrev pub col_zero : Option Motion → Bool
col_zero near = has 0 (pos 0) near && (is_small (vector_of 0 near).x && is_small (vector_of 0 near).y)

-- mvLX: zero where the list isn't used, and where its reference is 0 and the co-located block hardly moves; else as predicted for 16x16
abbrev pub direct_vector : ℕ → ℤ → Bool → Field → Vector
direct_vector list reference still f =
    if int_lt reference (pos 0) then zero_vector else
    (if int_eq reference (pos 0) && still then zero_vector else predicted 0 0 list reference f)

-- whether no neighbour uses either list
abbrev pub uses_neither : ℤ → ℤ → Bool
uses_neither r s = int_lt r (pos 0) && int_lt s (pos 0)

-- with these references, the vectors of both lists
abbrev pub motion_with : ℤ → ℤ → Bool → Field → Motion
motion_with r s still f = record { refs = r ∷ s ∷ []; vectors = direct_vector 0 r still f ∷ direct_vector 1 s still f ∷ [] }

-- the motion of an 8x8 block with these references: where neither list is used, both references are 0 and the vectors zero
abbrev pub direct_block : ℤ → ℤ → Field → Option Motion → Motion
direct_block r s f near =
    if uses_neither r s then record { refs = pos 0 ∷ pos 0 ∷ []; vectors = zero_vector ∷ zero_vector ∷ [] }
    else motion_with r s (col_zero near) f

-- the motion of the four 8x8 blocks, by the co-located block of each
abbrev pub direct_of : Field → List (Option Motion) → List Motion
direct_of f near =
    let r = direct_reference 0 f in
    let s = direct_reference 1 f in
    direct_block r s f (slice_index_or near 0 None) ∷ direct_block r s f (slice_index_or near 1 None) ∷
    direct_block r s f (slice_index_or near 2 None) ∷ direct_block r s f (slice_index_or near 3 None) ∷ []
