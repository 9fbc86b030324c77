use Rattle.std.proofs.Common.{◌≤◌}
use Rattle.tool_compare.proofs.plans.slice_start.Given as goal

abbrev pub invariant-loop-first : goal.invariant-loop-first
invariant-loop-first l = l.start ≤ l.row
