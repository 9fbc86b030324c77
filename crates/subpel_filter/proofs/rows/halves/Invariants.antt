use Rattle.std.proofs.Common.{◌≡◌, length}
use Rattle.subpel_filter.specs.Rows.{HalvesOf}
use Rattle.subpel_filter.proofs.rows.halves.Given as goal

abbrev pub invariant-loop-i : goal.invariant-loop-i
invariant-loop-i g l = (length l.row ≡ g.row.W) × HalvesOf l.a l.row l.i
