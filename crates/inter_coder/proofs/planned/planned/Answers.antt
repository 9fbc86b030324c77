use Rattle.inter_coder.proofs.PlanLaws.{planned_is}
use Rattle.inter_coder.proofs.planned.planned.Goals as goal

pub returns-clause-record : goal.returns-clause-record
returns-clause-record c view h =
    planned_is view c.args.plan.now c.args.kind c.args.qp c.shape_of-shape.result c.blank-mb.result c.planned_motion-motion.result c.differences-first.result c.differences-second.result c.both-mvd.result c.shape_of-shape.ensures.value c.blank-mb.ensures
    c.planned_motion-motion.ensures.value (c.differences-first.ensures view h) (c.differences-second.ensures view h) c.both-mvd.ensures
