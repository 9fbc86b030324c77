use Rattle.std.proofs.Common.{length, ◌≡◌, ◌+◌, ◌*◌, ◌≤◌}
use Rattle.spec_bits.specs.Units.{escape}
use Rattle.nal_writer.specs.Runs.{IsRun}
use Rattle.nal_writer.proofs.units.inserted.Given as goal

abbrev pub invariant-loop-run : goal.invariant-loop-run
invariant-loop-run l = record {
  count : length (escape 0 l.rest) + length l.initial.rest + l.count ≡ length (escape 0 l.initial.rest) + length l.rest;
  few : 2 * l.count + length l.rest ≤ length l.initial.rest;
  run : IsRun l.rest l.run;
}

abbrev pub decreases-loop-run : goal.decreases-loop-run
decreases-loop-run l = length l.rest
