-- Pools of plans, from their making to their being brought together.
use Rattle.std.specs.Prelude.{ℕ, Bool, IsTrue, List, [], ◌∷◌, Some, true, length, get_or, ◌≡◌, ◌≤◌, ◌<◌, ◌+◌, ◌⊎◌}
use Rattle.std.specs.List.{All, sum_by}
use Rattle.enc_tables.specs.declared.plans.RowPlan.{RowPlan}
use Rattle.picture_plans.specs.Planned.{AreRows}
use Rattle.row_desk.specs.declared.view.View.{View}
use Rattle.row_desk.specs.declared.Desk.{Desk}
use Rattle.row_desk.specs.declared.Seat.{Seat}
use Rattle.row_desk.specs.Desks.{IsOf, rows_of, view_of}
use Rattle.row_desk.specs.Rule.{times}
use Rattle.row_desk.specs.Views.{first_view}
use Rattle.plan_workers.specs.declared.pool.Pool.{Pool}
use Rattle.plan_workers.specs.declared.task.PlanTask.{PlanTask}
use Rattle.plan_workers.specs.Tasks.{across_in, compared_in}
use Rattle.plan_workers.specs.Drawn.{AreBelow, Has, IsPlanOf, Worked, begun, rows_in}

-- ---- pools

-- each plan has a place for each macroblock of a row, and there are not too many
pub record FitsRows (across : ℕ) (pool : Pool) : Type 0 where
  pub wide : AreRows across pool.plans.items
  pub short : length pool.plans.items ≤ 289

-- how many plans the pools hold
abbrev pub room_of : List Pool → ℕ
room_of [] = 0
room_of (p ∷ ps) = length p.plans.items + room_of ps

-- pools for pictures of so many rows, which together hold more plans than there are rows, or no pools
pub record ArePools (across down : ℕ) (pools : List Pool) : Type 0 where
  pub few : length pools ≤ 144
  pub fit : All (FitsRows across) pools
  pub room : 0 < length pools → down < room_of pools

-- ---- dealing

-- the first seat, from which so many were split
abbrev pub dealt_view : ℕ → ℕ → View
dealt_view limit n = record (first_view limit) { splits = n }

-- the pool has got a seat of this desk that has drawn nothing, and has the plans that it had
pub record Dealt (desk : Desk) (old new : Pool) : Type 0 where
  pub seat : Seat
  pub has_seat : new.seat ≡ Some seat
  pub own : IsOf desk seat
  pub view : view_of seat ≡ begun (rows_of desk)
  pub same_plans : new.plans ≡ old.plans

-- ---- working

-- the pool has a seat of this desk that has drawn nothing
pub record IsReady (across : ℕ) (desk : Desk) (pool : Pool) : Type 0 where
  pub seat : Seat
  pub has_seat : pool.seat ≡ Some seat
  pub own : IsOf desk seat
  pub view : view_of seat ≡ begun (rows_of desk)
  pub fits : FitsRows across pool

-- the pool has the seat and the plans of a thread that is done
pub record HasWorked (t : PlanTask) (let_in : ℕ → Bool) (desk : Desk) (pool : Pool) : Type 0 where
  pub seat : Seat
  pub has_seat : pool.seat ≡ Some seat
  pub own : IsOf desk seat
  pub worked : Worked t let_in (view_of seat) pool.plans.items pool.filled

-- so does the pool that was `old`
pub record PoolWorked (t : PlanTask) (let_in : ℕ → Bool) (desk : Desk) (old new : Pool) : Type 0 where
  pub done : HasWorked t let_in desk new
  pub same_room : length new.plans.items ≡ length old.plans.items
  pub wide : AreRows (across_in t) new.plans.items

-- ---- collecting

-- the pool has a seat of this desk, and plans of the desk's rows
pub record IsDone (desk : Desk) (pool : Pool) : Type 0 where
  pub seat : Seat
  pub has_seat : pool.seat ≡ Some seat
  pub own : IsOf desk seat
  pub room : pool.filled ≤ length pool.plans.items
  pub below : AreBelow (rows_of desk) pool.filled pool.plans.items

-- the plan is one of the first plans of a list, and it is that of the row
pub record IsAmong (count : ℕ) (from : List RowPlan) (row : ℕ) (p : RowPlan) : Type 0 where
  pub place : ℕ
  pub within : place < count
  pub plan : p ≡ get_or from place p
  pub row_is : p.row ≡ row

-- the first plans of a list stand at their rows, and the others are as they were
pub record Placed (count : ℕ) (from old new : List RowPlan) : Type 0 where
  pub moved : (x : ℕ) (d : RowPlan) → Has (rows_in count from) x → IsAmong count from x (get_or new x d)
  pub others : (x : ℕ) (d : RowPlan) → times x (rows_in count from) ≡ 0 → get_or new x d ≡ get_or old x d

-- the first seat took in the seats of k of n pools, which hold so many plans; the rows that it has are planned, and the gate let them in
pub record Collected (t : PlanTask) (let_in : ℕ → Bool) (n k held : ℕ) (v : View) (plans : List RowPlan) : Type 0 where
  pub first : v.first ≡ true
  pub splits_are : v.splits ≡ n
  pub seats_are : v.seats ≡ k + 1
  pub tally_is : v.tally ≡ sum_by (compared_in t) v.rows
  pub planned : (x : ℕ) (d : RowPlan) → Has v.rows x → IsPlanOf t x (get_or plans x d)
  pub asked : (x : ℕ) → Has v.rows x → IsTrue (let_in x)
  pub full : (0 < v.nones) ⊎ (length v.rows ≡ held)
