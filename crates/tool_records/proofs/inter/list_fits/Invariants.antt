use Rattle.std.proofs.Common.{◌<◌, ℕ}
use Rattle.spec_partitions.specs.Records.{MvdFits}
use Rattle.tool_records.proofs.inter.list_fits.Given as goal

abbrev pub invariant-loop-part : goal.invariant-loop-part
invariant-loop-part l = (part : ℕ) → part < l.part → MvdFits l.mb l.list part
