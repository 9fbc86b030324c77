-- The prediction of a partition's vector (ITU-T H.264, clause 8.4.1.3).
use Rattle.std.specs.Prelude.{ℕ, ℤ, Bool, ◌&&◌, not, if◌then◌else◌, nat_eq, Option, None, is_none, is_some}
use Rattle.std.specs.Int.{int_max, int_min}
use Rattle.enc_tables.specs.declared.records.Motion.{Motion}
use Rattle.enc_tables.specs.declared.records.Vector.{Vector}
use Rattle.spec_motion.specs.declared.Field.{Field}
use Rattle.spec_motion.specs.Neighbours.{vector_of, has}

-- the middle one of three numbers
abbrev pub median : ℤ → ℤ → ℤ → ℤ
median x y z = int_max (int_min x y) (int_min (int_max x y) z)

-- the median of the neighbours' vectors, by components
abbrev pub median_vector : ℕ → Field → Vector
median_vector list f = record {
  x = median (vector_of list f.a).x (vector_of list f.b).x (vector_of list f.c).x;
  y = median (vector_of list f.a).y (vector_of list f.b).y (vector_of list f.c).y;
}

-- whether A alone is available
abbrev pub is_alone : Field → Bool
is_alone f = is_none f.b && (is_none f.c && is_some f.a)

-- whether the first of three holds and the others don't
abbrev pub only : Bool → Bool → Bool → Bool
only x y z = x && (not y && not z)

-- median luma motion vector prediction (8.4.1.3.1): A's vector where it alone is available; else that of the one neighbour with the
-- reference, where there is just one; else the median
abbrev pub median_prediction : ℕ → ℤ → Field → Vector
median_prediction list reference f =
    if is_alone f then vector_of list f.a else
    (if only (has list reference f.a) (has list reference f.b) (has list reference f.c) then vector_of list f.a else
    (if only (has list reference f.b) (has list reference f.a) (has list reference f.c) then vector_of list f.b else
    (if only (has list reference f.c) (has list reference f.a) (has list reference f.b) then vector_of list f.c else
    median_vector list f)))

-- the neighbour whose vector is taken where it has the reference: of the upper part of 16x8 (shape 1) B, of the lower one A; of the left
-- part of 8x16 (shape 2) A, of the right one C; of 16x16 (0) and 8x8 (3) none
abbrev pub favoured : ℕ → ℕ → Field → Option Motion
favoured shape part f =
    if nat_eq shape 1 then (if nat_eq part 0 then f.b else f.a) else
    (if nat_eq shape 2 then (if nat_eq part 0 then f.a else f.c) else None)

-- mvpLX
abbrev pub predicted : ℕ → ℕ → ℕ → ℤ → Field → Vector
predicted shape part list reference f =
    if is_some (favoured shape part f) && has list reference (favoured shape part f) then vector_of list (favoured shape part f)
    else median_prediction list reference f
