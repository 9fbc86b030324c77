-- Lines and square blocks of samples, given by what stands at each place.
use Rattle.std.specs.Prelude.{ℕ, List, ◌%◌, ◌/◌, ◌*◌, map}
use Rattle.std.specs.List.{range_with_len}

-- f 0 to f (n - 1)
unfoldable pub line : ℕ → (ℕ → ℕ) → List ℕ
line n f = map f (range_with_len 0 n)

-- n by n samples, row by row, with f x y at column x of row y
unfoldable pub block : ℕ → (ℕ → ℕ → ℕ) → List ℕ
block n f = map (λ k. f (k % n) (k / n)) (range_with_len 0 (n * n))
