use Rattle.subpel_filter.specs.Rows.{RawsOf}
use Rattle.subpel_filter.proofs.rows.raws.Given as goal

abbrev pub invariant-loop-i : goal.invariant-loop-i
invariant-loop-i l = RawsOf l.a l.out l.i
