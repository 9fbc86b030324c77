use Rattle.std.proofs.Common.{◌≡◌, ◌≤◌, ℕ, length, get_or}
use Rattle.enc_tables.specs.declared.plans.RowPlan.{RowPlan}
use Rattle.picture_plans.specs.Planned.{AreRows}
use Rattle.plan_workers.specs.Pools.{Placed}
use Rattle.plan_workers.proofs.placing.place_plans.Given as goal

abbrev pub invariant-loop-k : goal.invariant-loop-k
invariant-loop-k l = record {
  from_long : length l.from ≡ length l.initial.from;
  plans_long : length l.plans ≡ length l.initial.plans;
  later : (j : ℕ) (d : RowPlan) → l.k ≤ j → get_or l.from j d ≡ get_or l.initial.from j d;
  placed : Placed l.k l.initial.from l.initial.plans l.plans;
  wide : (across : ℕ) → AreRows across l.initial.from → AreRows across l.initial.plans → AreRows across l.from × AreRows across l.plans;
}
