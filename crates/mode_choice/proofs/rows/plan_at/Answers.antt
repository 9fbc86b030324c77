use Rattle.std.proofs.Common.{refl}
use Rattle.picture_planes.specs.Pictures.{planes_of}
use Rattle.spec_inter_plans.specs.InterPlans.{Search}
use Rattle.mode_choice.specs.Given.{search_of, IsSourceOf}
use Rattle.mode_choice.proofs.RowPlans.{plan_is, small_is}
use Rattle.mode_choice.proofs.rows.plan_at.Goals as goal

pub returns-clause-plan : goal.returns-clause-plan
returns-clause-plan g c =
    let s : Search = search_of c.args.width c.args.lists.now (planes_of c.args.source.now) c.args.range in
    let h : IsSourceOf s c.args.source.now.y = record { width = c.requires.width; luma = refl } in
    plan_is c.args.kind s c.args.first_row c.args.t8x8 c.args.row c.args.column c.plan_macroblock-plan.result c.plan_inter-inter.result.parts c.plan_macroblock-plan.ensures.plan (c.plan_inter-inter.ensures.parts s h refl refl)

pub returns-clause-compared : goal.returns-clause-compared
returns-clause-compared g c =
    let s : Search = search_of c.args.width c.args.lists.now (planes_of c.args.source.now) c.args.range in
    let h : IsSourceOf s c.args.source.now.y = record { width = c.requires.width; luma = refl } in
    c.plan_inter-inter.ensures.compared s h refl refl

pub returns-clause-small : goal.returns-clause-small
returns-clause-small g c = small_is c.plan_macroblock-plan.result c.plan_inter-inter.result.parts c.plan_macroblock-plan.ensures.small c.plan_inter-inter.ensures.long c.plan_inter-inter.ensures.small
