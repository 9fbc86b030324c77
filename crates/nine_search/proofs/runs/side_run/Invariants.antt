use Rattle.std.proofs.Common.{◌≡◌, ◌<◌, ◌+◌, ◌*◌, ◌/◌, ◌%◌, ℕ, length}
use Rattle.std.specs.Prelude.{slice_index}
use Rattle.block_sums.specs.Tables.{sum_at}
use Rattle.nine_search.proofs.runs.side_run.Given as goal

abbrev pub invariant-loop-lane : goal.invariant-loop-lane
invariant-loop-lane l = record {
  sum0 : (i : ℕ) → i < l.lane → slice_index l.first i ≡ sum_at l.sums (l.left + 2 * l.spot.ring * (i % 2)) (l.top + i / 2);
  sum1 : (i : ℕ) → i < l.lane → slice_index l.right i ≡ sum_at l.sums (l.left + 2 * l.spot.ring * (i % 2) + 8) (l.top + i / 2);
  sum2 : (i : ℕ) → i < l.lane → slice_index l.below i ≡ sum_at l.sums (l.left + 2 * l.spot.ring * (i % 2)) (l.top + i / 2 + 8);
  sum3 : (i : ℕ) → i < l.lane → slice_index l.last i ≡ sum_at l.sums (l.left + 2 * l.spot.ring * (i % 2) + 8) (l.top + i / 2 + 8);
  long : (length l.first ≡ 16) × (length l.right ≡ 16) × (length l.below ≡ 16) × (length l.last ≡ 16);
}
