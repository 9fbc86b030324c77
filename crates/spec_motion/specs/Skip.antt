-- The motion of P_Skip (ITU-T H.264, clause 8.4.1.1).
use Rattle.std.specs.Prelude.{pos, negsuc, Bool, ◌&&◌, ◌||◌, if◌then◌else◌, [], ◌∷◌, Option, is_none}
use Rattle.std.specs.Ordering.{int_eq}
use Rattle.enc_tables.specs.declared.records.Motion.{Motion}
use Rattle.enc_tables.specs.declared.records.Vector.{Vector}
use Rattle.enc_tables.specs.Records.{zero_vector}
use Rattle.spec_motion.specs.declared.Field.{Field}
use Rattle.spec_motion.specs.Neighbours.{vector_of, has}
use Rattle.spec_motion.specs.Prediction.{predicted}

-- whether a vector is zero
abbrev pub is_zero : Vector → Bool
is_zero v = int_eq v.x (pos 0) && int_eq v.y (pos 0)

-- whether a neighbour has reference 0 of list 0 and the zero vector
abbrev pub is_still : Option Motion → Bool
is_still near = has 0 (pos 0) near && is_zero (vector_of 0 near)

-- whether the vector is zero whatever is predicted: A or B isn't available, or one of them is still
abbrev pub has_no_motion : Field → Bool
has_no_motion f = is_none f.a || (is_none f.b || (is_still f.a || is_still f.b))

abbrev pub skip_vector : Field → Vector
skip_vector f = if has_no_motion f then zero_vector else predicted 0 0 0 (pos 0) f

-- reference 0 of list 0
abbrev pub skip_of : Field → Motion
skip_of f = record { refs = pos 0 ∷ negsuc 0 ∷ []; vectors = skip_vector f ∷ zero_vector ∷ [] }
