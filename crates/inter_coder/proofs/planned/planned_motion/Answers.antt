use Rattle.std.proofs.Common.{arith}
use Rattle.spec_partitions.proofs.Coded.{part_inside}
use Rattle.inter_coder.proofs.PlanLaws.{part_small, part_fits, block_is, four_same, all_small, all_fit}
use Rattle.inter_coder.proofs.planned.planned_motion.Goals as goal

pub returns-clause-value : goal.returns-clause-value
returns-clause-value c =
    let plan = c.args.plan.now in
    let s = c.args.shape in
    four_same _ _ _ _ _ _ _ _
    (block_is plan s 0 c.planned_block-first.result c.requires.shape (omega arith) (omega arith) (omega arith) c.planned_block-first.ensures)
    (block_is plan s 1 c.planned_block-second.result c.requires.shape (omega arith) (omega arith) (omega arith) c.planned_block-second.ensures)
    (block_is plan s 2 c.planned_block-third.result c.requires.shape (omega arith) (omega arith) (omega arith) c.planned_block-third.ensures)
    (block_is plan s 3 c.planned_block-fourth.result c.requires.shape (omega arith) (omega arith) (omega arith) c.planned_block-fourth.ensures)

pub returns-clause-fits : goal.returns-clause-fits
returns-clause-fits c entries0 entries1 h =
    let plan = c.args.plan.now in
    let s = c.args.shape in
    all_fit entries0 entries1 _ _ _ _
    (part_fits entries0 entries1 plan s _ _ c.requires.shape (part_inside s 0 c.requires.shape (omega arith)) c.planned_block-first.ensures h)
    (part_fits entries0 entries1 plan s _ _ c.requires.shape (part_inside s 1 c.requires.shape (omega arith)) c.planned_block-second.ensures h)
    (part_fits entries0 entries1 plan s _ _ c.requires.shape (part_inside s 2 c.requires.shape (omega arith)) c.planned_block-third.ensures h)
    (part_fits entries0 entries1 plan s _ _ c.requires.shape (part_inside s 3 c.requires.shape (omega arith)) c.planned_block-fourth.ensures h)

pub returns-clause-short : goal.returns-clause-short
returns-clause-short c =
    let plan = c.args.plan.now in
    let s = c.args.shape in
    all_small 131 _ _ _ _
    (part_small 131 plan s _ _ c.requires.shape (part_inside s 0 c.requires.shape (omega arith)) c.planned_block-first.ensures c.requires.plan)
    (part_small 131 plan s _ _ c.requires.shape (part_inside s 1 c.requires.shape (omega arith)) c.planned_block-second.ensures c.requires.plan)
    (part_small 131 plan s _ _ c.requires.shape (part_inside s 2 c.requires.shape (omega arith)) c.planned_block-third.ensures c.requires.plan)
    (part_small 131 plan s _ _ c.requires.shape (part_inside s 3 c.requires.shape (omega arith)) c.planned_block-fourth.ensures c.requires.plan)
