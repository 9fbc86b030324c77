use Rattle.std.proofs.Common.{◌≡◌, ◌≤◌, ◌*◌, slice_index}
use Rattle.spec_basics.specs.Sums.{sum_below}
use Rattle.std.specs.Int.{abs_diff}
use Rattle.intra_plans.proofs.difference.difference.Given as goal

abbrev pub invariant-loop-k : goal.invariant-loop-k
invariant-loop-k l = record {
  value : l.sum ≡ sum_below (λ i. abs_diff (slice_index l.xs i) (slice_index l.ys i)) l.k;
  small : l.sum ≤ 255 * l.k;
}
