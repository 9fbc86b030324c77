use Rattle.std.proofs.Common.{arith}
use Rattle.macroblock_tests.proofs.vectors.nine_of.Goals as goal

pub search_nine_alone-requires-clause-sizes : goal.search_nine_alone-requires-clause-sizes
search_nine_alone-requires-clause-sizes c =
    let a = c.in_ok-from.ensures.shape in
    let b = c.in_ok-to.ensures.shape in
    record { width = omega arith; height = omega arith }

pub search_nine_alone-requires-clause-macroblock : goal.search_nine_alone-requires-clause-macroblock
search_nine_alone-requires-clause-macroblock c =
    let a = c.in_ok-from.ensures.shape in
    let b = c.requires.macroblock in
    record { across = omega arith; down = omega arith; wide = c.requires.macroblock.wide; high = c.requires.macroblock.high }
