use Rattle.std.proofs.Common.{arith}
use Rattle.spec_coded.specs.Planned.{planned_difference}
use Rattle.inter_coder.proofs.PlanLaws.{four_same, vector_there}
use Rattle.inter_coder.proofs.planned.differences.Goals as goal

pub returns : goal.returns
returns c view h =
    let d = planned_difference view c.args.plan.now c.args.shape c.args.list in
    let told = c.by_part-vectors.ensures view h in
    four_same _ _ _ _ _ _ _ _
    (vector_there d c.by_part-vectors.result c.args.shape 0 _ c.requires.shape (omega arith) told c.vector_in-first.ensures)
    (vector_there d c.by_part-vectors.result c.args.shape 1 _ c.requires.shape (omega arith) told c.vector_in-second.ensures)
    (vector_there d c.by_part-vectors.result c.args.shape 2 _ c.requires.shape (omega arith) told c.vector_in-third.ensures)
    (vector_there d c.by_part-vectors.result c.args.shape 3 _ c.requires.shape (omega arith) told c.vector_in-fourth.ensures)
