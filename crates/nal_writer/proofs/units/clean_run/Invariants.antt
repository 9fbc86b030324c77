use Rattle.nal_writer.proofs.Pieces.{Scanned}
use Rattle.nal_writer.proofs.units.clean_run.Given as goal

abbrev pub invariant-loop-i : goal.invariant-loop-i
invariant-loop-i l = Scanned l.bytes l.i l.zeros
