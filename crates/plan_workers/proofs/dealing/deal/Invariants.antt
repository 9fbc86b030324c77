use Rattle.std.proofs.Common.{◌≡◌, ◌≤◌, ◌<◌, ℕ, length, get_or}
use Rattle.row_desk.specs.Desks.{IsOf, rows_of, view_of}
use Rattle.plan_workers.specs.declared.pool.Pool.{Pool}
use Rattle.plan_workers.specs.Pools.{Dealt, dealt_view}
use Rattle.plan_workers.proofs.dealing.deal.Given as goal

abbrev pub invariant-loop-i : goal.invariant-loop-i
invariant-loop-i l = record {
  own : IsOf l.desk l.seat;
  first : view_of l.seat ≡ dealt_view (rows_of l.desk) l.i;
  later : (j : ℕ) (d : Pool) → l.i ≤ j → get_or l.pools j d ≡ get_or l.initial.pools j d;
  dealt : (j : ℕ) (d : Pool) → j < l.i → Dealt l.desk (get_or l.initial.pools j d) (get_or l.pools j d);
}
