use Rattle.spec_inter.specs.Blocks.{RowsOf}
use Rattle.spec_inter.specs.Taps.{mean}
use Rattle.subpel_filter.specs.Near.{whole_at}
use Rattle.subpel_filter.proofs.kept.mean_of_blocks.Given as goal

abbrev pub invariant-loop-j : goal.invariant-loop-j
invariant-loop-j g l = RowsOf (λ i j. mean (whole_at l.a l.at_a.columns l.at_a.rows l.column l.row i j) (whole_at l.b l.at_b.columns l.at_b.rows l.column l.row i j)) g.row.W l.j l.out
