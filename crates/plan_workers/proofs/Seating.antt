-- Pools that are given seats, and what their threads leave.
use Rattle.std.proofs.Common.{◌≡◌, ◌∙◌, ◌<◌, ◌≤◌, ◌+◌, ℕ, Bool, List, length, get_or, sym, ap, subst, arith}
use Rattle.std.specs.List.{All}
use Rattle.enc_tables.specs.declared.plans.RowPlan.{RowPlan}
use Rattle.picture_plans.specs.Planned.{AreRows}
use Rattle.row_desk.specs.declared.Desk.{Desk}
use Rattle.row_desk.specs.Desks.{rows_of}
use Rattle.plan_workers.specs.declared.pool.Pool.{Pool}
use Rattle.plan_workers.specs.declared.task.PlanTask.{PlanTask}
use Rattle.plan_workers.specs.Tasks.{across_in}
use Rattle.plan_workers.specs.Pools.{ArePools, Dealt, FitsRows, HasWorked, IsDone, IsReady, PoolWorked, room_of}
use Rattle.plan_workers.proofs.Joining.{same_room}

-- ---- before

ready : (across : ℕ) (desk : Desk) (old new : Pool) → FitsRows across old → Dealt desk old new → IsReady across desk new
ready across desk old new fits dealt = record {
  seat = dealt.seat;
  has_seat = dealt.has_seat;
  own = dealt.own;
  view = dealt.view;
  fits = record {
    wide = subst (λ (plans : List RowPlan). AreRows across plans) (sym same) fits.wide;
    short = let e = ap (λ (plans : List RowPlan). length plans) same in let s = fits.short in omega (arith, e, s);
  };
}
  where
    same : new.plans.items ≡ old.plans.items
    same = ap (λ plans. plans.items) dealt.same_plans

-- every pool that has got a seat is ready
pub all_ready : (across : ℕ) (desk : Desk) (old new : List Pool) → length new ≡ length old → All (FitsRows across) old
    → ((i : ℕ) (d : Pool) → i < length old → Dealt desk (get_or old i d) (get_or new i d)) → All (IsReady across desk) new
all_ready across desk old new long fit dealt i d lt =
    let inside : i < length old = omega (arith, lt, long) in
    ready across desk (get_or old i d) (get_or new i d) (fit i d inside) (dealt i d inside)

-- ---- after

-- what every thread has left
pub record AllWorked (t : PlanTask) (let_in : ℕ → Bool) (desk : Desk) (old new : List Pool) : Type 0 where
  pub long : length new ≡ length old
  pub worked : (i : ℕ) (d : Pool) → i < length old → PoolWorked t let_in desk (get_or old i d) (get_or new i d)

pub all_worked : (t : PlanTask) (let_in : ℕ → Bool) (desk : Desk) (old new : List Pool) → AllWorked t let_in desk old new → All (HasWorked t let_in desk) new
all_worked t let_in desk old new h i d lt = let long = h.long in (h.worked i d (omega (arith, lt, long))).done

done_of : (t : PlanTask) (let_in : ℕ → Bool) (desk : Desk) (pool : Pool) → rows_of desk ≡ t.down → HasWorked t let_in desk pool → IsDone desk pool
done_of t let_in desk pool rows h = record {
  seat = h.seat;
  has_seat = h.has_seat;
  own = h.own;
  room = h.worked.filled.room;
  below = λ k d lt. let b = (h.worked.filled.drawn k d lt).below in omega (arith, b, rows);
}

pub all_done : (t : PlanTask) (let_in : ℕ → Bool) (desk : Desk) (old new : List Pool) → rows_of desk ≡ t.down → AllWorked t let_in desk old new → All (IsDone desk) new
all_done t let_in desk old new rows h i d lt = done_of t let_in desk (get_or new i d) rows (all_worked t let_in desk old new h i d lt)

-- the pools hold as many plans as before, for rows as wide
pub all_fit : (t : PlanTask) (let_in : ℕ → Bool) (desk : Desk) (old new : List Pool) → All (IsReady (across_in t) desk) old → AllWorked t let_in desk old new → All (FitsRows (across_in t)) new
all_fit t let_in desk old new are h i d lt =
    let long = h.long in
    let inside : i < length old = omega (arith, lt, long) in
    one (get_or old i d) (get_or new i d) (are i d inside) (h.worked i d inside)
  where
    one : (p q : Pool) → IsReady (across_in t) desk p → PoolWorked t let_in desk p q → FitsRows (across_in t) q
    one p q is worked = record {
      wide = worked.wide;
      short = let e = worked.same_room in let s = is.fits.short in omega (arith, e, s);
    }

pub room_worked : (t : PlanTask) (let_in : ℕ → Bool) (desk : Desk) (old new : List Pool) → AllWorked t let_in desk old new → room_of new ≡ room_of old
room_worked t let_in desk old new h = same_room old new h.long (λ i d lt. (h.worked i d lt).same_room)

pub room_dealt : (desk : Desk) (old new : List Pool) → length new ≡ length old → ((i : ℕ) (d : Pool) → i < length old → Dealt desk (get_or old i d) (get_or new i d)) → room_of new ≡ room_of old
room_dealt desk old new long dealt = same_room old new long (λ i d lt. ap (λ (plans : List RowPlan). length plans) (items_same (get_or old i d) (get_or new i d) (dealt i d lt)))
  where
    items_same : (p q : Pool) → Dealt desk p q → q.plans.items ≡ p.plans.items
    items_same p q h = ap (λ plans. plans.items) h.same_plans

-- pools for such pictures stay so
pub pools_kept : (across down : ℕ) (old new : List Pool) → ArePools across down old → length new ≡ length old → All (FitsRows across) new → room_of new ≡ room_of old → ArePools across down new
pools_kept across down old new are long fit room = record {
  few = let f = are.few in omega (arith, f, long);
  fit = fit;
  room = λ some. let r = are.room (omega (arith, some, long)) in omega (arith, r, room);
}
