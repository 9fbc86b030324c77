use Rattle.std.proofs.Common.{◌≡◌, length}
use Rattle.spec_intra.specs.Directions.{edge_at}
use Rattle.intra_pred.proofs.Filled.{Lined}
use Rattle.intra_pred.proofs.lines.raw_line4.Given as goal

abbrev pub invariant-loop-j : goal.invariant-loop-j
invariant-loop-j l = (length l.raw ≡ 13) × Lined (edge_at 4 l.nb.left l.nb.corner l.nb.above l.nb.avail.above_right) l.j l.raw
