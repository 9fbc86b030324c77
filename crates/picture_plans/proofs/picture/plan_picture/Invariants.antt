use Rattle.std.proofs.Common.{◌≡◌, ◌<◌, ◌/◌, ℕ, length, IsTrue}
use Rattle.picture_planes.specs.Pictures.{planes_of}
use Rattle.spec_inter_plans.specs.InterPlans.{picture_compared}
use Rattle.mode_choice.specs.Given.{search_of, used}
use Rattle.picture_plans.specs.Planned.{row_at, AreRows, SlicesPlanned}
use Rattle.picture_plans.proofs.picture.plan_picture.Given as goal

abbrev pub invariant-loop-slice : goal.invariant-loop-slice
invariant-loop-slice g l = record {
  long : length l.plans ≡ l.down;
  rows : AreRows (l.source.y.width / 16) l.plans;
  planned : SlicesPlanned l.kind (search_of (l.source.y.width / 16) l.lists (planes_of l.source) l.range) l.slices l.down l.t8x8 l.slice l.plans;
  compared : l.compared ≡ picture_compared (used l.kind (search_of (l.source.y.width / 16) l.lists (planes_of l.source) l.range)) (row_at l.slices l.down l.slice);
  asked : (r : ℕ) → r < row_at l.slices l.down l.slice → IsTrue (g.G.Gate.let_in l.gate r);
}
