use Rattle.std.proofs.Common.{length}
use Rattle.spec_bits.specs.Units.{escape}
use Rattle.nal_writer.specs.Runs.{IsRun}
use Rattle.nal_writer.proofs.Pieces.{Going}
use Rattle.nal_writer.proofs.units.put_escaped.Given as goal

abbrev pub invariant-loop-run : goal.invariant-loop-run
invariant-loop-run l = record {
  going : Going l.initial.out l.out (escape 0 l.rest) (escape 0 l.initial.rest);
  run : IsRun l.rest l.run;
}

abbrev pub decreases-loop-run : goal.decreases-loop-run
decreases-loop-run l = length l.rest
