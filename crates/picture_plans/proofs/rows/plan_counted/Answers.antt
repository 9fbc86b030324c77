use Rattle.std.proofs.Common.{◌/◌, ℕ, vec_len, ap, ◌∙◌, arith}
use Rattle.picture_planes.specs.Pictures.{planes_of}
use Rattle.spec_inter_plans.specs.InterPlans.{row_compared}
use Rattle.mode_choice.specs.Given.{search_of, used}
use Rattle.picture_plans.proofs.Planning.{planned_row, same_width}
use Rattle.picture_plans.proofs.rows.plan_counted.Goals as goal

pub plan_row_alone-requires-clause-width : goal.plan_row_alone-requires-clause-width
plan_row_alone-requires-clause-width c = omega (arith, c.requires.wide, c.requires.width)

pub returns-clause-planned : goal.returns-clause-planned
returns-clause-planned c =
    planned_row (vec_len c.args.out.now.mbs) (c.args.source.now.y.width / 16) c.args.kind c.args.lists.now (planes_of c.args.source.now) c.args.range c.args.first c.args.t8x8 c.args.row c.plan_row_alone.new.out
    c.requires.wide c.plan_row_alone.ensures.plans c.plan_row_alone.ensures.small

pub returns-clause-wide : goal.returns-clause-wide
returns-clause-wide c =
    same_width c.args.kind (search_of (c.args.source.now.y.width / 16) c.args.lists.now (planes_of c.args.source.now) c.args.range) c.args.first c.args.t8x8 c.args.row c.plan_row_alone.new.out
    (returns-clause-planned c)

pub returns-clause-compared : goal.returns-clause-compared
returns-clause-compared c =
    c.plan_row_alone.ensures.compared
    ∙ ap (λ (n : ℕ). row_compared (used c.args.kind (search_of n c.args.lists.now (planes_of c.args.source.now) c.args.range)) c.args.row) c.requires.wide
