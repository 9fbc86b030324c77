use Rattle.std.proofs.Common.{◌≡◌, ◌≤◌, ◌*◌, length}
use Rattle.picture_planes.specs.Samples.{samples_of}
use Rattle.spec_basics.specs.Sums.{sum_below}
use Rattle.spec_choice.specs.IntraPlans.{best8_of}
use Rattle.intra_pred.proofs.Filled.{Lined}
use Rattle.intra_plans.proofs.macroblock.plan8.Given as goal

abbrev pub invariant-loop-k : goal.invariant-loop-k
invariant-loop-k l = record {
  size : length l.modes ≡ 4;
  modes : Lined (λ i. (best8_of l.luma.width (samples_of l.luma) l.mb l.x l.y i).mode) l.k l.modes;
  cost : l.cost ≡ sum_below (λ i. (best8_of l.luma.width (samples_of l.luma) l.mb l.x l.y i).cost) l.k;
  small : l.cost ≤ 16320 * l.k;
}
