use Rattle.std.proofs.Common.{◌≡◌, ℕ, ◌<◌, ◌+◌, ◌*◌, true}
use Rattle.std.specs.Prelude.{slice_range}
use Rattle.spec_contexts.specs.Increments.{bit_of, some_level}
use Rattle.tool_records.proofs.checks.luma_some.Given as goal

abbrev pub invariant-loop-k : goal.invariant-loop-k
invariant-loop-k l = (i : ℕ) → i < l.k → bit_of l.mb.luma_cbp i ≡ true → some_level (slice_range l.mb.luma (64 * i) (64 * i + 64)) ≡ true
