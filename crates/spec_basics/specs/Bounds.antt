-- Bounds on the size of integers.
use Rattle.std.specs.Prelude.{ℕ, ℤ, pos, ◌≤ℤ◌, ◌-ℤ◌}

-- at most b in size
pub record Within (b : ℕ) (x : ℤ) : Type 0 where
  pub low : (pos 0 -ℤ pos b) ≤ℤ x
  pub high : x ≤ℤ pos b
