use Rattle.subpel_filter.specs.Rows.{HalvesOf}
use Rattle.subpel_filter.proofs.rows.halves_along.Given as goal

abbrev pub invariant-loop-i : goal.invariant-loop-i
invariant-loop-i l = HalvesOf l.a l.out l.i
