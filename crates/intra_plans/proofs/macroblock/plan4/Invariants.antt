use Rattle.std.proofs.Common.{◌≡◌, ◌≤◌, ◌*◌, length}
use Rattle.picture_planes.specs.Samples.{samples_of}
use Rattle.spec_basics.specs.Sums.{sum_below}
use Rattle.spec_choice.specs.IntraPlans.{best4_of}
use Rattle.intra_pred.proofs.Filled.{Lined}
use Rattle.intra_plans.proofs.macroblock.plan4.Given as goal

abbrev pub invariant-loop-b : goal.invariant-loop-b
invariant-loop-b l = record {
  size : length l.modes ≡ 16;
  modes : Lined (λ i. (best4_of l.luma.width (samples_of l.luma) l.mb l.x l.y i).mode) l.b l.modes;
  cost : l.cost ≡ sum_below (λ i. (best4_of l.luma.width (samples_of l.luma) l.mb l.x l.y i).cost) l.b;
  small : l.cost ≤ 4080 * l.b;
}
