-- The refinement of a vector to quarter samples: two rounds of nine.
use Rattle.std.specs.Prelude.{ℕ, ℤ, pos, if◌then◌else◌, nat_eq, nat_lt, ◌-◌, ◌*◌, ◌/◌, ◌%◌, ◌≡◌, ◌+ℤ◌, ◌-ℤ◌, ◌*ℤ◌}
use Rattle.enc_tables.specs.declared.records.Vector.{Vector}
use Rattle.spec_search.specs.Least.{IsFirstLeast}

-- The nine places of a square of three rows of three are 0 to 8, row by row; its centre, 4, is tried first and then the
-- others in their order.
abbrev pub square_place : ℕ → ℕ
square_place k = (if nat_eq k 0 then 4 else (if nat_lt k 5 then k - 1 else k))

-- the vector tried at turn k of a round: the places of the square lie `step` quarter samples apart
abbrev pub turned : Vector → ℕ → ℕ → Vector
turned centre step k = record {
  x = centre.x +ℤ pos (step * (square_place k % 3)) -ℤ pos step;
  y = centre.y +ℤ pos (step * (square_place k / 3)) -ℤ pos step;
}

-- of the nine vectors of a round this one is the first of least cost
pub record IsBestOfNine (cost : Vector → ℕ) (centre : Vector) (step : ℕ) (best : Vector) : Type 0 where
  pub turn : ℕ
  pub first_least : IsFirstLeast (λ k. cost (turned centre step k)) 9 turn
  pub stands : best ≡ turned centre step turn

-- a whole-sample vector in quarter samples
abbrev pub in_quarters : ℤ → ℤ → Vector
in_quarters dx dy = record { x = pos 4 *ℤ dx; y = pos 4 *ℤ dy }

-- a round about the vector at 2 quarter samples, and then one about the best of it at 1 quarter sample
pub record IsRefined (cost : Vector → ℕ) (dx dy : ℤ) (best : Vector) (size : ℕ) : Type 0 where
  pub half : Vector
  pub coarse : IsBestOfNine cost (in_quarters dx dy) 2 half
  pub fine : IsBestOfNine cost half 1 best
  pub is_cost : size ≡ cost best
