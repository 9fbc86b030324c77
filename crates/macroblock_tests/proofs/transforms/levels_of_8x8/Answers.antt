use Rattle.macroblock_tests.specs.declared.transforms.TheConstants.{COEFFICIENTS8}
use Rattle.macroblock_tests.proofs.ByTest.{within_by_test}
use Rattle.macroblock_tests.proofs.transforms.levels_of_8x8.Goals as goal

pub quantise8-block-requires-clause-size : goal.quantise8-block-requires-clause-size
quantise8-block-requires-clause-size g c = within_by_test 64 65280 COEFFICIENTS8 tt

pub quantise8-block-requires-2-clause-size : goal.quantise8-block-requires-2-clause-size
quantise8-block-requires-2-clause-size g c = within_by_test 64 65280 COEFFICIENTS8 tt
