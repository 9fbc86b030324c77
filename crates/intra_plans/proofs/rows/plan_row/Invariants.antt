use Rattle.std.proofs.Common.{◌≡◌, ◌<◌, ℕ, vec_len, get_or}
use Rattle.enc_tables.specs.Choice.{SmallCosts}
use Rattle.enc_tables.specs.Plans.{blank_plan}
use Rattle.picture_planes.specs.Pictures.{planes_of}
use Rattle.spec_choice.specs.IntraPlans.{intra_plan}
use Rattle.intra_plans.proofs.rows.plan_row.Given as goal

abbrev pub invariant-loop-column : goal.invariant-loop-column
invariant-loop-column l = record {
  row : l.out.row ≡ l.row;
  size : vec_len l.out.mbs ≡ l.width;
  plans : (k : ℕ) → k < l.column → get_or l.out.mbs.items k blank_plan ≡ intra_plan l.width l.first_row l.t8x8 (planes_of l.source) l.row k;
  small : (k : ℕ) → k < l.column → SmallCosts (get_or l.out.mbs.items k blank_plan);
}
