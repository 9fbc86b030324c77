use Rattle.std.proofs.Common.{◌≡◌, ◌<◌, ℕ}
use Rattle.spec_partitions.specs.Partitions.{shape_of, part_of, part_mvd, difference_of}
use Rattle.tool_records.proofs.inter.is_spread.Given as goal

abbrev pub invariant-loop-block : goal.invariant-loop-block
invariant-loop-block l = (k : ℕ) → k < l.block → difference_of l.mb l.list k ≡ part_mvd l.mb l.list (part_of (shape_of l.mb.kind) k)
