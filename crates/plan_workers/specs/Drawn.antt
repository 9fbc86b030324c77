-- What a thread does with the rows that its seat draws.
use Rattle.std.specs.Prelude.{ℕ, Bool, IsTrue, List, length, get_or, map, take, ◌≡◌, ◌≤◌, ◌<◌, ◌+◌, ◌⊎◌}
use Rattle.std.specs.List.{sum_by}
use Rattle.enc_tables.specs.declared.plans.RowPlan.{RowPlan}
use Rattle.picture_plans.specs.Planned.{row_at, IsRowPlan}
use Rattle.row_desk.specs.declared.view.View.{View}
use Rattle.row_desk.specs.Rule.{times}
use Rattle.row_desk.specs.Views.{beside, first_view}
use Rattle.plan_workers.specs.declared.task.PlanTask.{PlanTask}
use Rattle.plan_workers.specs.Tasks.{compared_in, search_in}

-- the plan of a row, as a row of the slice that it is in
pub record IsPlanOf (t : PlanTask) (row : ℕ) (p : RowPlan) : Type 0 where
  pub in_slice : (k : ℕ) → k < t.slices → row_at t.slices t.down k ≤ row → row < row_at t.slices t.down (k + 1)
      → IsRowPlan t.kind (search_in t) (row_at t.slices t.down k) t.t8x8 row p

-- the plan of the row that it names, which the gate let in
pub record IsDrawn (t : PlanTask) (let_in : ℕ → Bool) (p : RowPlan) : Type 0 where
  pub below : p.row < t.down
  pub plan : IsPlanOf t p.row p
  pub asked : IsTrue (let_in p.row)

-- the rows of the first plans of a list
abbrev pub rows_in : ℕ → List RowPlan → List ℕ
rows_in count plans = map (λ (p : RowPlan). p.row) (take count plans)

-- they are below a limit
abbrev pub AreBelow : ℕ → ℕ → List RowPlan → Type 0
AreBelow limit count plans = (k : ℕ) (d : RowPlan) → k < count → (get_or plans k d).row < limit

-- the row stands in the list
abbrev pub Has : List ℕ → ℕ → Type 0
Has rows x = 0 < times x rows

-- what the seat of a thread knows at first
abbrev pub begun : ℕ → View
begun rows = beside (first_view rows)

-- a seat that knows this drew and tallied the rows of the first `count` of these plans, and drew none so often
pub record Filled (t : PlanTask) (let_in : ℕ → Bool) (v : View) (plans : List RowPlan) (count nones : ℕ) : Type 0 where
  pub room : count ≤ length plans
  pub drawn : (k : ℕ) (d : RowPlan) → k < count → IsDrawn t let_in (get_or plans k d)
  pub view : v ≡ record (begun t.down) { rows = rows_in count plans; nones = nones; tally = sum_by (compared_in t) (rows_in count plans) }

-- and it stopped where it drew none, or where all plans were filled
pub record Worked (t : PlanTask) (let_in : ℕ → Bool) (v : View) (plans : List RowPlan) (count : ℕ) : Type 0 where
  pub nones : ℕ
  pub filled : Filled t let_in v plans count nones
  pub stopped : ((nones ≡ 0) × (count ≡ length plans)) ⊎ (nones ≡ 1)
