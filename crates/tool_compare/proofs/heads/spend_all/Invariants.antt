use Rattle.std.proofs.Common.{◌≤◌}
use Rattle.tool_compare.proofs.heads.spend_all.Given as goal

abbrev pub invariant-loop-k : goal.invariant-loop-k
invariant-loop-k l = l.ledger.units ≤ l.k
