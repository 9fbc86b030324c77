use Rattle.std.proofs.Common.{length, ◌≡◌, ◌≤◌, true, map, drop}
use Rattle.spec_syntax.specs.Blocks.{none, nonzero}
use Rattle.residual_writer.proofs.significance.last_level.Given as goal

abbrev pub invariant-loop-i : goal.invariant-loop-i
invariant-loop-i l = record { empty : none (map nonzero (drop l.i l.levels)) ≡ true; within : l.i ≤ length l.levels }

abbrev pub decreases-loop-i : goal.decreases-loop-i
decreases-loop-i l = l.i
