use Rattle.std.proofs.Common.{◌≡◌, ◌<◌, ◌≤◌, ◌+◌, ◌/◌, ℕ, length, get_or, IsTrue}
use Rattle.enc_tables.specs.declared.plans.RowPlan.{RowPlan}
use Rattle.picture_planes.specs.Pictures.{planes_of}
use Rattle.spec_inter_plans.specs.InterPlans.{picture_compared}
use Rattle.mode_choice.specs.Given.{search_of, used}
use Rattle.picture_plans.specs.Planned.{AreRows, RowsPlanned}
use Rattle.picture_plans.proofs.rows.plan_slice.Given as goal

abbrev pub invariant-loop-row : goal.invariant-loop-row
invariant-loop-row g l = record {
  long : length l.plans ≡ length l.initial.plans;
  rows : AreRows (l.source.y.width / 16) l.plans;
  planned : RowsPlanned l.kind (search_of (l.source.y.width / 16) l.lists (planes_of l.source) l.range) l.first l.row l.t8x8 l.plans;
  above : (r : ℕ) (d : RowPlan) → r < l.first → get_or l.plans r d ≡ get_or l.initial.plans r d;
  compared : l.compared + picture_compared (used l.kind (search_of (l.source.y.width / 16) l.lists (planes_of l.source) l.range)) l.first ≡ picture_compared (used l.kind (search_of (l.source.y.width / 16) l.lists (planes_of l.source) l.range)) l.row;
  asked : (r : ℕ) → l.first ≤ r → r < l.row → IsTrue (g.G.Gate.let_in l.gate r);
}
