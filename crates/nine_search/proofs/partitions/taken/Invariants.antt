use Rattle.std.proofs.Common.{◌≡◌, ◌≤◌, ◌<◌, ℕ, length}
use Rattle.std.specs.Prelude.{pos, slice_index, slice_index_or}
use Rattle.nine_search.proofs.partitions.taken.Given as goal

abbrev pub invariant-loop-k : goal.invariant-loop-k
invariant-loop-k l = record {
  cheaper : (k : ℕ) → k < l.k → slice_index l.costs k < slice_index l.fn.nine.sads k → (slice_index_or l.right k (pos 0) ≡ l.dx) × (slice_index_or l.down k (pos 0) ≡ l.dy) × (slice_index l.sads k ≡ slice_index l.costs k);
  other : (k : ℕ) → k < l.k → slice_index l.fn.nine.sads k ≤ slice_index l.costs k → (slice_index_or l.right k (pos 0) ≡ slice_index_or l.fn.nine.dx k (pos 0)) × (slice_index_or l.down k (pos 0) ≡ slice_index_or l.fn.nine.dy k (pos 0)) × (slice_index l.sads k ≡ slice_index l.fn.nine.sads k);
  left : (k : ℕ) → l.k ≤ k → (slice_index_or l.right k (pos 0) ≡ slice_index_or l.fn.nine.dx k (pos 0)) × (slice_index_or l.down k (pos 0) ≡ slice_index_or l.fn.nine.dy k (pos 0)) × (slice_index l.sads k ≡ slice_index l.fn.nine.sads k);
  right : length l.right ≡ 9;
  down : length l.down ≡ 9;
  sads : length l.sads ≡ 9;
}
