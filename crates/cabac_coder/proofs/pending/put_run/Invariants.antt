use Rattle.std.proofs.Common.{◌≡◌, ◌*◌, ◌++◌}
use Rattle.spec_bits.specs.Bits.{digits}
use Rattle.cabac_coder.specs.Emitted.{run_of}
use Rattle.cabac_coder.proofs.pending.put_run.Given as goal

abbrev pub invariant-loop-i : goal.invariant-loop-i
invariant-loop-i l = l.buf ≡ record l.initial.buf { text = l.initial.buf.text ++ digits (8 * l.i) (run_of l.carry l.i) }
