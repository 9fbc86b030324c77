-- Runs of vectors that follow each other in the scan, a lane for each.
use Rattle.std.specs.Prelude.{ℕ, List, [], ◌∷◌, get_or, slice_index, length, nat_lt, if◌then◌else◌, ◌+◌, ◌-◌, ◌*◌, ◌/◌, ◌%◌, ◌<◌, ◌≡◌}
use Rattle.std.specs.Int.{abs_diff}
use Rattle.block_sums.specs.declared.table.SumTable.{SumTable}
use Rattle.block_sums.specs.Tables.{sum_at}
use Rattle.spec_search.specs.declared.blocks.Spot.{Spot}
use Rattle.spec_search.specs.Scan.{spot_at}
use Rattle.nine_search.specs.declared.runs.Run.{Run}

-- the vector so many columns further on
abbrev pub along : Spot → ℕ → Spot
along s m = record { ring = s.ring; column = s.column + m; row = s.row }

-- the vector so many places further on, where places are left and right in turn
abbrev pub beside : Spot → ℕ → Spot
beside s m = record { ring = s.ring; column = 2 * s.ring * (m % 2); row = s.row + m / 2 }

-- the vector at lane i
unfoldable pub spot_of : Run → ℕ → Spot
spot_of run i = if run.is_sided then beside run.spot i else along run.spot i

-- the sum of sub-macroblock q at lane i
unfoldable pub lane_of : Run → ℕ → ℕ → ℕ
lane_of run q i = slice_index (get_or (run.first ∷ run.right ∷ run.below ∷ run.last ∷ []) q []) i

-- how far it is from the macroblock's own
abbrev pub apart_of : List ℕ → Run → ℕ → ℕ → ℕ
apart_of own run q i = abs_diff (slice_index own q) (lane_of run q i)

-- the lanes hold the sums where their vectors lead from the macroblock at (x, y)
pub record HoldsSums (t : SumTable) (x y : ℕ) (run : Run) : Type 0 where
  pub at : (q i : ℕ) → q < 4 → i < run.count → lane_of run q i ≡ sum_at t (x + t.pad + (spot_of run i).column - (spot_of run i).ring + 8 * (q % 2)) (y + t.pad + (spot_of run i).row - (spot_of run i).ring + 8 * (q / 2))

-- the lanes are the places of the scan from `place` on
pub record Follows (place : ℕ) (run : Run) : Type 0 where
  pub spot : (i : ℕ) → i < run.count → spot_of run i ≡ spot_at (place + i)

-- and they have these bounds
pub record IsRun (own : List ℕ) (bounds : ℕ → ℕ → ℕ) (place : ℕ) (run : Run) : Type 0 where
  pub bound : (q i : ℕ) → q < 4 → i < run.count → apart_of own run q i ≡ bounds q (place + i)
  pub follows : Follows place run

-- each row has sixteen lanes
pub record AreLanes (run : Run) : Type 0 where
  pub first : length run.first ≡ 16
  pub right : length run.right ≡ 16
  pub below : length run.below ≡ 16
  pub last : length run.last ≡ 16

-- one of sixteen lanes holds v
pub record HoldsAt (i v : ℕ) (lanes : List ℕ) : Type 0 where
  pub count : length lanes ≡ 16
  pub value : slice_index lanes i ≡ v

-- 1 where a sum is below its limit
abbrev pub is_below : ℕ → ℕ → ℕ
is_below sum limit = (if nat_lt sum limit then 1 else 0)
