use Rattle.macroblock_tests.specs.declared.transforms.TheConstants.{DIFFERENCES8}
use Rattle.macroblock_tests.proofs.ByTest.{within_by_test}
use Rattle.macroblock_tests.proofs.transforms.forward.Goals as goal

pub forward8-requires : goal.forward8-requires
forward8-requires g c = within_by_test 64 255 DIFFERENCES8 tt
