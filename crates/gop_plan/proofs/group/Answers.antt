use Rattle.std.proofs.Common.{◌+◌, ◌-◌, ◌∷◌, ◌++◌, [], List, ap, ◌∙◌, arith}
use Rattle.enc_tables.specs.declared.records.PlanStep.{PlanStep}
use Rattle.spec_plan.specs.Plan.{b_steps}
use Rattle.gop_plan.proofs.Stepping.{next, none_left, between}
use Rattle.gop_plan.proofs.group.Goals as goal

pub loop-place-preserved : goal.loop-place-preserved
loop-place-preserved c =
    let end = c.args.display + (c.args.got - 1) in
    let kept = c.loop-place.steps.items in (
      omega (arith, c.push-in-loop-place.ensures.len, c.loop-place.invariant.0, c.loop-place.auto.place),
      ap (λ (xs : List PlanStep). xs ++ b_steps c.args.idr (c.loop-place.place + 1) c.args.frame_num (end - (c.loop-place.place + 1)))
          (c.push-in-loop-place.ensures.items ∙ ap (λ (b : PlanStep). kept ++ b ∷ []) c.b_picture.ensures)
          ∙ next c.args.idr c.args.frame_num c.loop-place.place end kept c.loop-place-test.true ∙ c.loop-place.invariant.1,
    )

pub returns : goal.returns
returns c =
    none_left c.args.idr c.args.frame_num c.loop-place.place (c.args.display + (c.args.got - 1)) c.loop-place.steps.items _ c.loop-place-test.false c.loop-place.invariant.1
    ∙ between c.args.display c.args.got c.args.idr c.args.frame_num c.if-display-idr-eq0.false
