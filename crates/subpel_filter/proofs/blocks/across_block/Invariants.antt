use Rattle.spec_inter.specs.Blocks.{RowsOf}
use Rattle.subpel_filter.specs.Near.{across_at}
use Rattle.subpel_filter.proofs.blocks.across_block.Given as goal

abbrev pub invariant-loop-j : goal.invariant-loop-j
invariant-loop-j g l = RowsOf (across_at l.plane l.l l.column l.row) g.row.W l.j l.out
