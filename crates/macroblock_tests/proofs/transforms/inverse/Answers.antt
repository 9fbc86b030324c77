use Rattle.macroblock_tests.specs.declared.transforms.TheConstants.{RESCALED8}
use Rattle.macroblock_tests.proofs.ByTest.{within_by_test}
use Rattle.macroblock_tests.proofs.transforms.inverse.Goals as goal

pub inverse8-requires : goal.inverse8-requires
inverse8-requires g c = within_by_test 64 1048576 RESCALED8 tt
