-- What a neighbouring block says of one list (ITU-T H.264, clause 8.4.1.3.2).
use Rattle.std.specs.Prelude.{ℕ, ℤ, pos, negsuc, Bool, if◌then◌else◌, slice_index_or, Option, None, Some, int_lt}
use Rattle.std.specs.Ordering.{int_eq}
use Rattle.enc_tables.specs.declared.records.Motion.{Motion}
use Rattle.enc_tables.specs.declared.records.Vector.{Vector}
use Rattle.enc_tables.specs.Records.{zero_vector}

-- refIdxLXN: its reference, −1 where it isn't available or doesn't use the list
abbrev pub reference_of : ℕ → Option Motion → ℤ
reference_of list None = negsuc 0
reference_of list (Some m) = slice_index_or m.refs list (negsuc 0)

-- mvLXN: its vector, zero where it isn't available or doesn't use the list
abbrev pub vector_of : ℕ → Option Motion → Vector
vector_of list None = zero_vector
vector_of list (Some m) =
    if int_lt (slice_index_or m.refs list (negsuc 0)) (pos 0) then zero_vector else slice_index_or m.vectors list zero_vector

-- whether its reference is that one
abbrev pub has : ℕ → ℤ → Option Motion → Bool
has list reference near = int_eq (reference_of list near) reference
