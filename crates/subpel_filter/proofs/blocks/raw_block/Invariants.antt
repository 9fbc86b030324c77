use Rattle.spec_inter.specs.Blocks.{RowsHold}
use Rattle.subpel_filter.specs.Near.{RawAt}
use Rattle.subpel_filter.proofs.blocks.raw_block.Given as goal

abbrev pub invariant-loop-j : goal.invariant-loop-j
invariant-loop-j g l = RowsHold (RawAt l.plane l.column l.row) g.row.W l.j l.out
