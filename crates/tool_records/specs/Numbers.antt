-- Flags and motion as numbers.
use Rattle.std.specs.Prelude.{ℕ, ◌+◌, Bool, true, false, ℤ, pos, List, [], ◌∷◌, get_or}
use Rattle.enc_tables.specs.declared.records.Motion.{Motion}
use Rattle.enc_tables.specs.declared.records.Vector.{Vector}

abbrev pub number_at : List ℤ → ℕ → ℤ
number_at numbers k = get_or numbers k (pos 0)

abbrev pub flag_number : Bool → ℕ
flag_number false = 0
flag_number true = 1

-- the vector whose two parts begin at a place
abbrev pub vector_at : List ℤ → ℕ → Vector
vector_at numbers k = record { x = number_at numbers k; y = number_at numbers (k + 1) }

-- a reference and a vector of list 0, and those of list 1
abbrev pub motion_in : List ℤ → Motion
motion_in numbers = record {
  refs = number_at numbers 0 ∷ number_at numbers 3 ∷ [];
  vectors = vector_at numbers 1 ∷ vector_at numbers 4 ∷ [];
}
