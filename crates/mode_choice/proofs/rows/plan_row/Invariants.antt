use Rattle.std.proofs.Common.{◌≡◌, ◌≤◌, ◌<◌, ◌+◌, ◌*◌, ◌^◌, ℕ, vec_len, get_or}
use Rattle.std.specs.List.{range_with_len, sum_by}
use Rattle.enc_tables.specs.Choice.{SmallCosts}
use Rattle.enc_tables.specs.Plans.{blank_plan}
use Rattle.picture_planes.specs.Pictures.{planes_of}
use Rattle.spec_inter_plans.specs.InterPlans.{plan_of, parts_compared}
use Rattle.mode_choice.specs.Given.{search_of, used}
use Rattle.mode_choice.proofs.rows.plan_row.Given as goal

abbrev pub invariant-loop-column : goal.invariant-loop-column
invariant-loop-column g l = record {
  row : l.out.row ≡ l.row;
  size : vec_len l.out.mbs ≡ l.width;
  plans : (k : ℕ) → k < l.column → get_or l.out.mbs.items k blank_plan ≡ plan_of l.kind (search_of l.width l.lists (planes_of l.source) l.range) l.first_row l.t8x8 l.row k;
  compared : l.out.compared ≡ sum_by (λ k. parts_compared (used l.kind (search_of l.width l.lists (planes_of l.source) l.range)) (16 * k) (16 * l.row)) (range_with_len 0 l.column);
  counted : l.steps ≡ l.fn.steps + l.out.compared;
  most : l.out.compared ≤ l.column * 2 ^ 35;
  small : (k : ℕ) → k < l.column → SmallCosts (get_or l.out.mbs.items k blank_plan);
}
