-- Searches of nine partitions at once. Costs and bounds are given by sub-macroblock and place of the scan.
use Rattle.std.specs.Prelude.{ℕ, ℤ, pos, List, slice_index, slice_index_or, nat_lt, if◌then◌else◌, ◌<◌, ◌≤◌, ◌≡◌}
use Rattle.spec_basics.specs.Sums.{sum_below}
use Rattle.spec_search.specs.Scan.{spot_at, dx_of, dy_of}
use Rattle.spec_search.specs.Least.{Searched, compared_of}
use Rattle.nine_search.specs.declared.partitions.Nine.{Nine}
use Rattle.nine_search.specs.Partitions.{partition_of}

-- the best vector of partition k: samples to the right, and downwards
abbrev pub dx_at : Nine → ℕ → ℤ
dx_at nine k = slice_index_or nine.dx k (pos 0)

abbrev pub dy_at : Nine → ℕ → ℤ
dy_at nine k = slice_index_or nine.dy k (pos 0)

-- what it costs
abbrev pub sad_at : Nine → ℕ → ℕ
sad_at nine k = slice_index nine.sads k

-- 1 where the bound at a place is below the limit
abbrev pub wants : (ℕ → ℕ) → ℕ → ℕ → ℕ
wants bound limit place = (if nat_lt (bound place) limit then 1 else 0)

-- how many of the nine want a place
abbrev pub nine_want : (ℕ → ℕ → ℕ) → (ℕ → ℕ) → ℕ → ℕ
nine_want bound limits place = sum_below (λ k. wants (partition_of bound k) (limits k) place) 9

-- how many of the first n sums are below the limits at their places
abbrev pub below_count : List ℕ → List ℕ → ℕ → ℕ
below_count sums limits n = sum_below (λ k. if nat_lt (slice_index sums k) (slice_index limits k) then 1 else 0) n

-- the vector is the first of least cost of the first n places
pub record IsBestSoFar (cost bound : ℕ → ℕ) (n : ℕ) (dx dy : ℤ) (sad : ℕ) : Type 0 where
  pub place : ℕ
  pub across : dx ≡ dx_of (spot_at place)
  pub down : dy ≡ dy_of (spot_at place)
  pub known : Searched cost bound n place sad (compared_of cost bound n)

-- what a search of all nine knows after the first n places: each has its best vector, and the count is that of all
pub record NineSearched (cost bound : ℕ → ℕ → ℕ) (n : ℕ) (nine : Nine) : Type 0 where
  pub each : (k : ℕ) → k < 9 → IsBestSoFar (partition_of cost k) (partition_of bound k) n (dx_at nine k) (dy_at nine k) (sad_at nine k)
  pub count : nine.compared ≡ sum_below (λ k. compared_of (partition_of cost k) (partition_of bound k) n) 9

-- a partition takes a vector whose cost is lower, and no other
pub record Takes (dx dy : ℤ) (cost k : ℕ) (old new : Nine) : Type 0 where
  pub cheaper : cost < sad_at old k → (dx_at new k ≡ dx) × (dy_at new k ≡ dy) × (sad_at new k ≡ cost)
  pub other : sad_at old k ≤ cost → (dx_at new k ≡ dx_at old k) × (dy_at new k ≡ dy_at old k) × (sad_at new k ≡ sad_at old k)
