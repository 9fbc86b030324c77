use Rattle.std.proofs.Common.{◌≡◌, ◌∙◌, ◌≤◌, ◌<◌, ◌*◌, ◌+◌, ◌/◌, ℕ, ap, subst, vec_len, arith}
use Rattle.picture_planes.specs.Pictures.{planes_of}
use Rattle.spec_inter_plans.specs.InterPlans.{row_compared}
use Rattle.mode_choice.specs.Given.{search_of, used}
use Rattle.picture_plans.specs.Planned.{row_at, IsRowPlan}
use Rattle.picture_plans.proofs.Planning.{planned_row, same_width}
use Rattle.picture_plans.proofs.Counting.{search_bounded, counted_small}
use Rattle.plan_workers.specs.Tasks.{across_in, search_in}
use Rattle.plan_workers.proofs.rows.plan_one.Goals as goal

pub plan_row_alone-requires-clause-width : goal.plan_row_alone-requires-clause-width
plan_row_alone-requires-clause-width c = let wide = c.requires.wide in let whole = c.requires.task.width in omega (arith, wide, whole)

pub plan_row_alone-requires-clause-row : goal.plan_row_alone-requires-clause-row
plan_row_alone-requires-clause-row c = let row = c.requires.row in let high = c.requires.task.height in omega (arith, row, high)

pub returns-clause-plan : goal.returns-clause-plan
returns-clause-plan c =
    let t = c.args.task.now in
    let plan : IsRowPlan t.kind (search_in t) c.first_row-first.result t.t8x8 c.args.row c.plan_row_alone.new.out =
    planned_row (vec_len c.args.out.now.mbs) (across_in t) t.kind t.lists.now (planes_of t.source.now) t.range c.first_row-first.result t.t8x8 c.args.row c.plan_row_alone.new.out
    c.requires.wide c.plan_row_alone.ensures.plans c.plan_row_alone.ensures.small in
    record {
      in_slice = λ k less from to.
          subst (λ (n : ℕ). IsRowPlan t.kind (search_in t) n t.t8x8 c.args.row c.plan_row_alone.new.out) (c.first_row-first.ensures.first k from to) plan;
    }

pub returns-clause-wide : goal.returns-clause-wide
returns-clause-wide c =
    let t = c.args.task.now in
    same_width t.kind (search_in t) c.first_row-first.result t.t8x8 c.args.row c.plan_row_alone.new.out
    (planned_row (vec_len c.args.out.now.mbs) (across_in t) t.kind t.lists.now (planes_of t.source.now) t.range c.first_row-first.result t.t8x8 c.args.row c.plan_row_alone.new.out
    c.requires.wide c.plan_row_alone.ensures.plans c.plan_row_alone.ensures.small)

pub returns-clause-compared : goal.returns-clause-compared
returns-clause-compared c =
    let t = c.args.task.now in
    c.plan_row_alone.ensures.compared
    ∙ ap (λ (n : ℕ). row_compared (used t.kind (search_of n t.lists.now (planes_of t.source.now) t.range)) c.args.row) c.requires.wide

pub returns-clause-small : goal.returns-clause-small
returns-clause-small c =
    let t = c.args.task.now in
    let row = c.requires.row in
    let down = c.requires.task.down_fits in
    let small = counted_small (used t.kind (search_in t)) c.args.row c.args.row 0 c.plan_row_alone.new.out.compared
    (search_bounded t.source.now.y t.kind t.lists.now (planes_of t.source.now) t.range c.requires.task.range_fits.1 c.lemma_lists_are_short.ensures c.requires.task.inside)
    (omega (arith, row, down)) (omega arith) (returns-clause-compared c) in
    omega (arith, small)
