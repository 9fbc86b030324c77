use Rattle.spec_inter.specs.Blocks.{RowsOf}
use Rattle.subpel_filter.specs.Near.{down_at}
use Rattle.subpel_filter.proofs.blocks.down_block.Given as goal

abbrev pub invariant-loop-j : goal.invariant-loop-j
invariant-loop-j g l = RowsOf (down_at l.plane l.k l.column l.row) g.row.W l.j l.out
