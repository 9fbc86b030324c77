use Rattle.std.proofs.Common.{arith}
use Rattle.macroblock_tests.proofs.vectors.refined_of.Goals as goal

pub refine-cost-requires-clause-sizes : goal.refine-cost-requires-clause-sizes
refine-cost-requires-clause-sizes c =
    let a = c.in_ok-from.ensures.shape in
    let b = c.in_ok-to.ensures.shape in
    record { width = omega arith; height = omega arith }

pub refine-cost-requires-clause-block : goal.refine-cost-requires-clause-block
refine-cost-requires-clause-block c =
    let a = c.in_ok-from.ensures.shape in
    let b = c.requires.block in
    record { across = omega arith; down = omega arith; wide = c.requires.block.wide; high = c.requires.block.high }
