use Rattle.std.proofs.Common.{◌≡◌, false}
use Rattle.bit_tests.proofs.arithmetic.a_carry_through_all.Given as goal

abbrev pub invariant-loop-i : goal.invariant-loop-i
invariant-loop-i g l = l.coder.ended ≡ false
