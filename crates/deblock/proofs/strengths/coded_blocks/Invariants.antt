use Rattle.std.proofs.Common.{◌≡◌, length}
use Rattle.deblock.specs.Coded.{CodedTo}
use Rattle.deblock.proofs.strengths.coded_blocks.Given as goal

abbrev pub invariant-loop-i : goal.invariant-loop-i
invariant-loop-i l = record { long : length l.coded ≡ 16; so_far : CodedTo l.i l.mb l.coded }
