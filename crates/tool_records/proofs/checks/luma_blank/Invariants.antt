use Rattle.std.proofs.Common.{◌≡◌, ℕ, ◌<◌, ◌/◌, get_or, false}
use Rattle.std.specs.Prelude.{pos}
use Rattle.spec_contexts.specs.Increments.{bit_of}
use Rattle.tool_records.proofs.checks.luma_blank.Given as goal

abbrev pub invariant-loop-k : goal.invariant-loop-k
invariant-loop-k l = (i : ℕ) → i < l.k → bit_of l.mb.luma_cbp (i / 64) ≡ false → get_or l.mb.luma i (pos 0) ≡ pos 0
