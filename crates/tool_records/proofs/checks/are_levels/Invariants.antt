use Rattle.std.proofs.Common.{ℕ, ◌<◌, ◌≤◌, get_or}
use Rattle.std.specs.Prelude.{pos, nat_abs}
use Rattle.tool_records.proofs.checks.are_levels.Given as goal

abbrev pub invariant-loop-k : goal.invariant-loop-k
invariant-loop-k l = (i : ℕ) → i < l.k → nat_abs (get_or l.levels i (pos 0)) ≤ 8191
