use Rattle.std.proofs.Common.{◌≡◌, ◌<◌, ◌/◌, length, vec_len, ◌∙◌, arith}
use Rattle.std.proofs.lemmas.List.{length-set, get_or-set_other}
use Rattle.std.proofs.lemmas.List.Elements.{All-set}
use Rattle.enc_tables.specs.declared.plans.RowPlan.{RowPlan}
use Rattle.picture_planes.specs.Pictures.{planes_of}
use Rattle.mode_choice.specs.Given.{search_of, used}
use Rattle.picture_plans.proofs.Planning.{row_more}
use Rattle.picture_plans.proofs.Asking.{row_asked}
use Rattle.picture_plans.proofs.Counting.{search_bounded, counted_more, counted_last, counted_small}
use Rattle.picture_plans.proofs.rows.plan_slice.Goals as goal

pub overflow_add-compared : goal.overflow_add-compared
overflow_add-compared g c =
    let s = search_of (c.args.source.now.y.width / 16) c.args.lists.now (planes_of c.args.source.now) c.args.range in
    let high = c.args.source.now.y.size.3 in
    let few : c.loop-row.row < 144 = omega (arith, c.loop-row-test.true, c.requires.height, high) in
    let small = counted_small (used c.args.kind s) c.args.first c.loop-row.row c.loop-row.compared c.plan_counted-compared.result
    (search_bounded c.args.source.now.y c.args.kind c.args.lists.now (planes_of c.args.source.now) c.args.range c.requires.range.1 c.requires.few c.requires.inside)
    few c.loop-row.invariant.compared c.plan_counted-compared.ensures.compared in
    omega (arith, small)

pub loop-row-preserved : goal.loop-row-preserved
loop-row-preserved g c =
    let s = search_of (c.args.source.now.y.width / 16) c.args.lists.now (planes_of c.args.source.now) c.args.range in
    let inside : c.loop-row.row < length c.loop-row.plans = omega (arith, c.loop-row-test.true, c.requires.end, c.loop-row.invariant.long) in
    record {
      long = length-set c.loop-row.plans c.loop-row.row c.plan_counted-compared.new.out ∙ c.loop-row.invariant.long;
      rows =
          All-set (λ (p : RowPlan). vec_len p.mbs ≡ c.args.source.now.y.width / 16) c.loop-row.plans c.loop-row.row c.plan_counted-compared.new.out
          c.plan_counted-compared.ensures.wide
          c.loop-row.invariant.rows;
      planned = row_more c.args.kind s c.args.first c.loop-row.row c.args.t8x8 c.loop-row.plans c.plan_counted-compared.new.out inside c.loop-row.invariant.planned c.plan_counted-compared.ensures.planned;
      above = λ r d h.
          get_or-set_other c.loop-row.plans c.loop-row.row r c.plan_counted-compared.new.out d (omega (arith, h, c.loop-row.auto.row))
          ∙ c.loop-row.invariant.above r d h;
      compared = counted_more (used c.args.kind s) c.args.first c.loop-row.row c.loop-row.compared c.plan_counted-compared.result c.loop-row.invariant.compared c.plan_counted-compared.ensures.compared;
      asked = row_asked (g.G.Gate.let_in c.args.gate.now) c.args.first c.loop-row.row c.loop-row.invariant.asked c.enter.ensures;
    }

pub returns-clause-compared : goal.returns-clause-compared
returns-clause-compared g c =
    let s = search_of (c.args.source.now.y.width / 16) c.args.lists.now (planes_of c.args.source.now) c.args.range in
    let end : c.loop-row.row ≡ c.args.end = omega (arith, c.loop-row-test.false, c.loop-row.auto.row-end, c.requires.order) in
    counted_last (used c.args.kind s) c.args.first c.loop-row.row c.args.end c.loop-row.compared end c.loop-row.invariant.compared
