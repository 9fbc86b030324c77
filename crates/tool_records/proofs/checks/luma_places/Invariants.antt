use Rattle.std.proofs.Common.{◌≡◌, ℕ, ◌<◌, ◌*◌, get_or}
use Rattle.std.specs.Prelude.{pos}
use Rattle.tool_records.proofs.checks.luma_places.Given as goal

abbrev pub invariant-loop-b : goal.invariant-loop-b
invariant-loop-b l = (i : ℕ) → i < l.b → get_or l.mb.luma (16 * i) (pos 0) ≡ pos 0
