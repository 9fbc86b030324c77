use Rattle.std.proofs.Common.{◌≡◌, length}
use Rattle.spec_intra.specs.Smoothing.{smoothed_at}
use Rattle.intra_pred.proofs.Filled.{Lined}
use Rattle.intra_pred.proofs.lines.smooth_line.Given as goal

abbrev pub invariant-loop-k : goal.invariant-loop-k
invariant-loop-k l = (length l.out ≡ 25) × Lined (smoothed_at l.avail l.raw) l.k l.out
