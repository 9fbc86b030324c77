-- What the search for motion finds, as functions: the first vector of least cost of a window, and its refinement to quarter samples. They are
-- the only ones for which `IsWindowBest` and `IsRefined` hold.
use Rattle.std.specs.Prelude.{◌≡◌, ℕ, ◌-◌, map, ℤ}
use Rattle.std.specs.List.{range_with_len}
use Rattle.enc_tables.specs.declared.records.Vector.{Vector}
use Rattle.enc_tables.specs.Choice.{first_least}
use Rattle.spec_search.specs.Scan.{spot_at, dx_of, dy_of, window_size}
use Rattle.spec_search.specs.Refine.{turned, in_quarters}
use Rattle.spec_search.specs.Window.{IsWindowBest}

-- a vector, and what it costs
pub record Refined : Type 0 where
  pub vector : Vector
  pub size : ℕ

abbrev pub size_of : Refined → ℕ
size_of r = r.size

-- the vector at place n of the scan, in quarter samples
abbrev pub scanned_vector : (ℤ → ℤ → ℕ) → ℕ → Refined
scanned_vector cost n = record { vector = in_quarters (dx_of (spot_at n)) (dy_of (spot_at n)); size = cost (dx_of (spot_at n)) (dy_of (spot_at n)) }

unfoldable pub window_best : (ℤ → ℤ → ℕ) → ℕ → Vector
window_best cost range =
    (first_least size_of (scanned_vector cost 0) (map (scanned_vector cost) (range_with_len 1 (window_size range - 1)))).vector

-- the best of a round of nine about a centre
abbrev pub turned_vector : (Vector → ℕ) → Vector → ℕ → ℕ → Refined
turned_vector cost centre step k = record { vector = turned centre step k; size = cost (turned centre step k) }

unfoldable pub best_of_nine : (Vector → ℕ) → Vector → ℕ → Refined
best_of_nine cost centre step = first_least size_of (turned_vector cost centre step 0) (map (turned_vector cost centre step) (range_with_len 1 8))

-- a round at 2 quarter samples, and then one about its best at 1
unfoldable pub refined : (Vector → ℕ) → Vector → Refined
refined cost start = best_of_nine cost (best_of_nine cost start 2).vector 1

-- ---- what is said of them

-- a vector in quarter samples that leads to the best of a window
pub record IsBestVector (cost : ℤ → ℤ → ℕ) (range : ℕ) (v : Vector) : Type 0 where
  pub dx : ℤ
  pub dy : ℤ
  pub best : IsWindowBest cost range dx dy (cost dx dy)
  pub stands : v ≡ in_quarters dx dy
