use Rattle.std.proofs.Common.{◌≡◌, ◌≤◌, ℕ, Bool, length, take, get_or}
use Rattle.std.specs.List.{All}
use Rattle.picture_plans.specs.Planned.{AreRows}
use Rattle.row_desk.specs.Desks.{IsOf, view_of}
use Rattle.plan_workers.specs.declared.pool.Pool.{Pool}
use Rattle.plan_workers.specs.declared.task.PlanTask.{PlanTask}
use Rattle.plan_workers.specs.Pools.{Collected, FitsRows, HasWorked, room_of}
use Rattle.plan_workers.proofs.collecting.collect.Given as goal

abbrev pub invariant-loop-i : goal.invariant-loop-i
invariant-loop-i l = record {
  own : IsOf l.desk l.seat;
  pools_long : length l.pools ≡ length l.initial.pools;
  plans_long : length l.plans ≡ length l.initial.plans;
  later : (j : ℕ) (d : Pool) → l.i ≤ j → get_or l.pools j d ≡ get_or l.initial.pools j d;
  collected : (t : PlanTask) (let_in : ℕ → Bool) → All (HasWorked t let_in l.desk) l.initial.pools
      → Collected t let_in (length l.initial.pools) l.i (room_of (take l.i l.initial.pools)) (view_of l.seat) l.plans;
  fits : (across : ℕ) → All (FitsRows across) l.initial.pools → AreRows across l.initial.plans → All (FitsRows across) l.pools × AreRows across l.plans;
  room : room_of l.pools ≡ room_of l.initial.pools;
}
