use Rattle.std.proofs.Common.{◌<◌, ℕ}
use Rattle.spec_partitions.specs.Records.{PartFits}
use Rattle.mb_syntax.specs.Around.{near_of}
use Rattle.tool_records.proofs.inter.parts_fit.Given as goal

abbrev pub invariant-loop-part : goal.invariant-loop-part
invariant-loop-part l = (part : ℕ) → part < l.part → PartFits (near_of l.around l.mb) l.mb part
