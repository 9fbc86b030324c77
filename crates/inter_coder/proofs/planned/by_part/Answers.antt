use Rattle.std.proofs.Common.{arith, length-set, ◌∙◌}
use Rattle.spec_coded.specs.Planned.{planned_difference}
use Rattle.inter_coder.proofs.PlanLaws.{vector_next}
use Rattle.inter_coder.proofs.planned.by_part.Goals as goal

pub loop-part-preserved : goal.loop-part-preserved
loop-part-preserved c =
    let long = c.loop-part.invariant.long in
    record {
      long = length-set c.loop-part.vectors c.loop-part.part c.difference.result ∙ long;
      told = λ view h. vector_next (planned_difference view c.args.plan.now c.args.shape c.args.list) c.loop-part.vectors c.loop-part.part c.difference.result
          (omega (arith, long, c.loop-part-test.true, c.part_count-count.ensures.small)) (c.difference.ensures view h) (c.loop-part.invariant.told view h);
    }
