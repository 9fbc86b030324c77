use Rattle.std.proofs.Common.{length, ◌≡◌, ◌+◌, ◌≤◌, drop}
use Rattle.spec_syntax.specs.Blocks.{levels_string, above_one, equal_one}
use Rattle.bin_writer.specs.Coding.{seen, Codes}
use Rattle.residual_writer.proofs.levels.code_levels.Given as goal

abbrev pub invariant-loop-i : goal.invariant-loop-i
invariant-loop-i l = record {
  coded : Codes (seen l.fn.coder l.fn.contexts) (levels_string l.category (drop l.i l.levels)) (seen l.coder l.contexts);
  above : l.above ≡ above_one (drop l.i l.levels);
  ones : l.ones ≡ equal_one (drop l.i l.levels);
  within : l.i ≤ length l.levels;
  few : l.above + l.ones + l.i ≤ length l.levels;
}

abbrev pub decreases-loop-i : goal.decreases-loop-i
decreases-loop-i l = l.i
