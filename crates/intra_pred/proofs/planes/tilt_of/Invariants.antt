use Rattle.std.proofs.Common.{◌≡◌, ◌≤◌, ◌*◌, ◌+◌, ◌-◌, slice_index}
use Rattle.spec_basics.specs.Sums.{sum_below}
use Rattle.intra_pred.proofs.planes.tilt_of.Given as goal

abbrev pub invariant-loop-i : goal.invariant-loop-i
invariant-loop-i l = record {
  up : l.up ≡ sum_below (λ i. i * slice_index l.samples (l.h + i)) l.i;
  down : l.down ≡ sum_below (λ i. i * slice_index l.samples (l.h - i)) l.i;
  up_most : l.up ≤ 2040 * l.i;
  down_most : l.down ≤ 2040 * l.i;
}
