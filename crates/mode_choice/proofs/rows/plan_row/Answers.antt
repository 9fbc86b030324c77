use Rattle.std.proofs.Common.{◌≡◌, ◌<◌, ◌*◌, ℕ, List, length, vec_len, ap, sym, ◌∙◌, arith}
use Rattle.std.proofs.lemmas.List.Elements.{All-from_get_or}
use Rattle.enc_tables.specs.declared.records.MbPlan.{MbPlan}
use Rattle.enc_tables.specs.Choice.{SmallCosts}
use Rattle.enc_tables.specs.Plans.{blank_plan}
use Rattle.picture_planes.specs.Pictures.{planes_of}
use Rattle.spec_inter_plans.specs.InterPlans.{plan_of, parts_compared, row_plans, row_compared}
use Rattle.mode_choice.specs.Given.{search_of, used}
use Rattle.mode_choice.proofs.RowPlans.{all_planned, row_compared_is, one_column_more, plan_more}
use Rattle.mode_choice.proofs.rows.plan_row.Goals as goal

pub loop-column-preserved : goal.loop-column-preserved
loop-column-preserved g c =
    let i = c.loop-column.invariant in
    let s = search_of c.len-width.result c.args.lists.now (planes_of c.args.source.now) c.args.range in
    let column : ℕ = c.loop-column.column in
    let items : List MbPlan = c.loop-column.out.mbs.items in
    let planned = c.plan_at-planned in
    let size = i.size in
    let ok = c.loop-column.out.mbs.ok.0 in
    let test = c.loop-column-test.true in
    let inside : column < length items = omega (arith, size, ok, test) in
    let counted = i.counted in
    let more = planned.ensures.counted in
    let most = i.most in
    let few = planned.ensures.most in
    record {
      row = i.row;
      size = i.size;
      plans = plan_more (λ (k : ℕ) (p : MbPlan). p ≡ plan_of c.args.kind s c.args.first_row c.args.t8x8 c.args.row k) items column planned.result.0 inside i.plans planned.ensures.plan;
      compared = one_column_more (λ k. parts_compared (used c.args.kind s) (16 * k) (16 * c.args.row)) column _ _ i.compared planned.ensures.compared;
      counted = omega (arith, counted, more);
      most = omega (arith, most, few);
      small = plan_more (λ (k : ℕ) (p : MbPlan). SmallCosts p) items column planned.result.0 inside i.small planned.ensures.small;
    }

pub returns-clause-plans : goal.returns-clause-plans
returns-clause-plans g c =
    let end : c.loop-column.column ≡ c.len-width.result = omega (arith, c.loop-column-test.false, c.loop-column.auto.column-end) in
    let same : c.len-width.result ≡ vec_len c.args.out.now.mbs = c.len-width.ensures in
    all_planned c.args.kind (search_of c.len-width.result c.args.lists.now (planes_of c.args.source.now) c.args.range) c.args.first_row c.args.t8x8 c.args.row c.loop-column.out.mbs.items
    (sym c.loop-column.out.mbs.ok.0 ∙ c.loop-column.invariant.size) (rw end at c.loop-column.invariant.plans)
    ∙ ap (λ (n : ℕ). row_plans c.args.kind (search_of n c.args.lists.now (planes_of c.args.source.now) c.args.range) c.args.first_row c.args.t8x8 c.args.row) same

pub returns-clause-compared : goal.returns-clause-compared
returns-clause-compared g c =
    let end : c.loop-column.column ≡ c.len-width.result = omega (arith, c.loop-column-test.false, c.loop-column.auto.column-end) in
    let same : c.len-width.result ≡ vec_len c.args.out.now.mbs = c.len-width.ensures in
    row_compared_is (used c.args.kind (search_of c.len-width.result c.args.lists.now (planes_of c.args.source.now) c.args.range)) c.args.row _ (rw end at c.loop-column.invariant.compared)
    ∙ ap (λ (n : ℕ). row_compared (used c.args.kind (search_of n c.args.lists.now (planes_of c.args.source.now) c.args.range)) c.args.row) same

pub returns-clause-small : goal.returns-clause-small
returns-clause-small g c =
    let end : c.loop-column.column ≡ c.len-width.result = omega (arith, c.loop-column-test.false, c.loop-column.auto.column-end) in
    All-from_get_or SmallCosts c.loop-column.out.mbs.items blank_plan
    (λ k h. c.loop-column.invariant.small k (omega (arith, end, c.loop-column.out.mbs.ok.0, c.loop-column.invariant.size)))
