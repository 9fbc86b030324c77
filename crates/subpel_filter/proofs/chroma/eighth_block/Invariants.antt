use Rattle.spec_inter.specs.Blocks.{RowsOf}
use Rattle.subpel_filter.specs.Near.{eighth_in}
use Rattle.subpel_filter.proofs.chroma.eighth_block.Given as goal

abbrev pub invariant-loop-j : goal.invariant-loop-j
invariant-loop-j g l = RowsOf (eighth_in l.plane l.u l.v l.column l.row) g.row.W l.j l.out
