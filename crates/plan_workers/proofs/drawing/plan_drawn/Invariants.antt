use Rattle.std.proofs.Common.{◌≡◌, ◌≤◌, ◌-◌, ◌*◌, length}
use Rattle.picture_plans.specs.Planned.{AreRows}
use Rattle.row_desk.specs.Desks.{IsOf, view_of}
use Rattle.plan_workers.specs.Tasks.{across_in}
use Rattle.plan_workers.specs.Drawn.{Filled}
use Rattle.plan_workers.proofs.drawing.plan_drawn.Given as goal

abbrev pub invariant-loop-filled : goal.invariant-loop-filled
invariant-loop-filled g l = record {
  own : IsOf l.desk l.seat;
  done : Filled l.task (g.G.Gate.let_in l.gate) (view_of l.seat) l.plans l.filled 0;
  small : (view_of l.seat).tally ≤ l.filled * 11214028800;
  long : length l.plans ≡ length l.initial.plans;
  wide : AreRows (across_in l.task) l.plans;
}

abbrev pub decreases-loop-filled : goal.decreases-loop-filled
decreases-loop-filled g l = length l.initial.plans - l.filled
