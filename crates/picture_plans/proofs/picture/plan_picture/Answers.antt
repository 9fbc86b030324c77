use Rattle.std.proofs.Common.{◌≡◌, ◌≤◌, ◌<◌, ◌+◌, ◌/◌, ◌*◌, ◌^◌, ℕ, length, get_or, IsTrue, refl, subst, ◌∙◌, arith}
use Rattle.enc_tables.specs.declared.plans.RowPlan.{RowPlan}
use Rattle.picture_planes.specs.Pictures.{planes_of}
use Rattle.mode_choice.specs.Given.{search_of, used}
use Rattle.picture_plans.specs.Planned.{row_at, SlicesPlanned}
use Rattle.picture_plans.proofs.Sharing.{row_none}
use Rattle.picture_plans.proofs.Planning.{no_slices, slice_more, rows_at}
use Rattle.picture_plans.proofs.Asking.{slice_asked, all_asked}
use Rattle.picture_plans.proofs.Counting.{search_bounded, slices_more, slices_none, slices_last, slices_small, rows_small}
use Rattle.picture_plans.proofs.picture.plan_picture.Goals as goal

pub loop-slice-init : goal.loop-slice-init
loop-slice-init g c =
    let s = search_of (c.args.source.now.y.width / 16) c.args.lists.now (planes_of c.args.source.now) c.args.range in
    record {
      long = refl;
      rows = c.requires.rows;
      planned = no_slices c.args.kind s c.args.slices (length c.args.plans.now) c.args.t8x8 c.args.plans.now;
      compared = slices_none (used c.args.kind s) (length c.args.plans.now) c.args.slices;
      asked = λ r less. absurd (omega (arith, less, row_none (length c.args.plans.now) c.args.slices));
    }

pub overflow_add-compared : goal.overflow_add-compared
overflow_add-compared g c =
    let s = search_of (c.args.source.now.y.width / 16) c.args.lists.now (planes_of c.args.source.now) c.args.range in
    let few : c.slice_start-end.result ≤ 144 = omega (arith, c.slice_start-end.ensures.within, c.requires.down) in
    let small = slices_small (used c.args.kind s) c.slice_start-first.result c.slice_start-end.result
    (row_at c.args.slices (length c.args.plans.now) c.loop-slice.slice) (row_at c.args.slices (length c.args.plans.now) (c.loop-slice.slice + 1)) c.loop-slice.compared c.plan_slice-compared.result
    (search_bounded c.args.source.now.y c.args.kind c.args.lists.now (planes_of c.args.source.now) c.args.range c.requires.range.1 c.lemma_lists_are_short.ensures c.requires.inside)
    few c.slice_start-first.ensures.value c.slice_start-end.ensures.value c.loop-slice.invariant.compared c.plan_slice-compared.ensures.compared in
    omega (arith, small)

pub loop-slice-preserved : goal.loop-slice-preserved
loop-slice-preserved g c =
    let s = search_of (c.args.source.now.y.width / 16) c.args.lists.now (planes_of c.args.source.now) c.args.range in
    record {
      long = c.plan_slice-compared.ensures.len ∙ c.loop-slice.invariant.long;
      rows = c.plan_slice-compared.ensures.rows;
      planned =
          slice_more c.args.kind s (length c.args.plans.now) c.args.slices c.loop-slice.slice c.args.t8x8 c.loop-slice.plans c.plan_slice-compared.new.plans c.requires.some
          c.loop-slice.invariant.planned
          (rows_at c.args.kind s c.slice_start-first.result c.slice_start-end.result (row_at c.args.slices (length c.args.plans.now) c.loop-slice.slice) (row_at c.args.slices (length c.args.plans.now) (c.loop-slice.slice + 1)) c.args.t8x8 c.plan_slice-compared.new.plans
          c.slice_start-first.ensures.value c.slice_start-end.ensures.value c.plan_slice-compared.ensures.planned)
          (subst (λ (n : ℕ). (r : ℕ) (d : RowPlan) → r < n → get_or c.plan_slice-compared.new.plans r d ≡ get_or c.loop-slice.plans r d) c.slice_start-first.ensures.value c.plan_slice-compared.ensures.above);
      compared =
          slices_more (used c.args.kind s) c.slice_start-first.result c.slice_start-end.result
          (row_at c.args.slices (length c.args.plans.now) c.loop-slice.slice) (row_at c.args.slices (length c.args.plans.now) (c.loop-slice.slice + 1)) c.loop-slice.compared c.plan_slice-compared.result
          c.slice_start-first.ensures.value c.slice_start-end.ensures.value c.loop-slice.invariant.compared c.plan_slice-compared.ensures.compared;
      asked =
          slice_asked (g.G.Gate.let_in c.args.gate.now) c.slice_start-first.result c.slice_start-end.result (row_at c.args.slices (length c.args.plans.now) c.loop-slice.slice) (row_at c.args.slices (length c.args.plans.now) (c.loop-slice.slice + 1)) c.slice_start-first.ensures.value c.slice_start-end.ensures.value
          c.loop-slice.invariant.asked c.plan_slice-compared.ensures.asked;
    }

pub returns-clause-planned : goal.returns-clause-planned
returns-clause-planned g c =
    let s = search_of (c.args.source.now.y.width / 16) c.args.lists.now (planes_of c.args.source.now) c.args.range in
    let end : c.loop-slice.slice ≡ c.args.slices = omega (arith, c.loop-slice-test.false, c.loop-slice.auto.slice-end) in
    subst (λ (n : ℕ). SlicesPlanned c.args.kind s c.args.slices (length c.args.plans.now) c.args.t8x8 n c.loop-slice.plans) end c.loop-slice.invariant.planned

pub returns-clause-compared : goal.returns-clause-compared
returns-clause-compared g c =
    let s = search_of (c.args.source.now.y.width / 16) c.args.lists.now (planes_of c.args.source.now) c.args.range in
    let end : c.loop-slice.slice ≡ c.args.slices = omega (arith, c.loop-slice-test.false, c.loop-slice.auto.slice-end) in
    slices_last (used c.args.kind s) (length c.args.plans.now) c.args.slices c.loop-slice.slice c.loop-slice.compared c.requires.some end c.loop-slice.invariant.compared

pub returns-clause-asked : goal.returns-clause-asked
returns-clause-asked g c =
    let end : c.loop-slice.slice ≡ c.args.slices = omega (arith, c.loop-slice-test.false, c.loop-slice.auto.slice-end) in
    all_asked (g.G.Gate.let_in c.args.gate.now) c.args.slices (length c.args.plans.now) c.requires.some
    (subst (λ (n : ℕ). (r : ℕ) → r < row_at c.args.slices (length c.args.plans.now) n → IsTrue (g.G.Gate.let_in c.args.gate.now r)) end c.loop-slice.invariant.asked)

pub returns-clause-small : goal.returns-clause-small
returns-clause-small g c =
    let s = search_of (c.args.source.now.y.width / 16) c.args.lists.now (planes_of c.args.source.now) c.args.range in
    let end : c.loop-slice.slice ≡ c.args.slices = omega (arith, c.loop-slice-test.false, c.loop-slice.auto.slice-end) in
    let is = slices_last (used c.args.kind s) (length c.args.plans.now) c.args.slices c.loop-slice.slice c.loop-slice.compared c.requires.some end c.loop-slice.invariant.compared in
    let most = rows_small (used c.args.kind s) (length c.args.plans.now) (search_bounded c.args.source.now.y c.args.kind c.args.lists.now (planes_of c.args.source.now) c.args.range c.requires.range.1 c.lemma_lists_are_short.ensures c.requires.inside) in
    let down = c.requires.down in
    omega (arith, is, most, down)
