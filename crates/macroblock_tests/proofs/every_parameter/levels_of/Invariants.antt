use Rattle.std.proofs.Common.{◌≡◌, length}
use Rattle.macroblock_tests.proofs.every_parameter.levels_of.Given as goal

abbrev pub invariant-loop-p : goal.invariant-loop-p
invariant-loop-p g l = length l.out ≡ g.row.N
