use Rattle.std.proofs.Common.{arith}
use Rattle.macroblock_tests.proofs.vectors.best_of.Goals as goal

pub search_alone-best-requires-clause-sizes : goal.search_alone-best-requires-clause-sizes
search_alone-best-requires-clause-sizes c =
    let a = c.in_ok-from.ensures.shape in
    let b = c.in_ok-to.ensures.shape in
    record { width = omega arith; height = omega arith }

pub search_alone-best-requires-clause-block : goal.search_alone-best-requires-clause-block
search_alone-best-requires-clause-block c =
    let a = c.in_ok-from.ensures.shape in
    let b = c.requires.block in
    record { across = omega arith; down = omega arith; wide = c.requires.block.wide; high = c.requires.block.high }
