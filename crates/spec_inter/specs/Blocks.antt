-- Blocks that are written row by row.
use Rattle.std.specs.Prelude.{ℕ, List, slice_index, ◌+◌, ◌*◌, ◌<◌, ◌≡◌}

-- at each of w columns and n rows of xs, row by row, stands a number of which P holds
pub record RowsHold (P : ℕ → ℕ → ℕ → Type 0) (w n : ℕ) (xs : List ℕ) : Type 0 where
  pub at : (i j : ℕ) → i < w → j < n → P i j (slice_index xs (j * w + i))

-- at each of w columns and n rows of xs, row by row, stands what f gives for column and row
abbrev pub RowsOf : (ℕ → ℕ → ℕ) → ℕ → ℕ → List ℕ → Type 0
RowsOf f w n xs = RowsHold (λ i j v. v ≡ f i j) w n xs
