use Rattle.std.proofs.Common.{replicate}
use Rattle.nal_writer.proofs.Pieces.{Going}
use Rattle.nal_writer.proofs.units.put_fill.Given as goal

abbrev pub invariant-loop-left : goal.invariant-loop-left
invariant-loop-left l = Going l.initial.out l.out (replicate l.left 255) (replicate l.initial.left 255)

abbrev pub decreases-loop-left : goal.decreases-loop-left
decreases-loop-left l = l.left
