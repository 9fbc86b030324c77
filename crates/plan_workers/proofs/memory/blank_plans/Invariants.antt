use Rattle.std.proofs.Common.{◌≡◌, vec_len}
use Rattle.picture_plans.specs.Planned.{AreRows}
use Rattle.plan_workers.proofs.memory.blank_plans.Given as goal

abbrev pub invariant-loop-row : goal.invariant-loop-row
invariant-loop-row l = record {
  count : vec_len l.plans ≡ l.row;
  rows : AreRows l.across l.plans.items;
}
