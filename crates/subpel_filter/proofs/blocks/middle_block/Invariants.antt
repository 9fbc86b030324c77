use Rattle.spec_inter.specs.Blocks.{RowsOf}
use Rattle.subpel_filter.specs.Near.{position_at}
use Rattle.spec_inter.specs.declared.Position.TheVariants.{Middle}
use Rattle.subpel_filter.proofs.blocks.middle_block.Given as goal

abbrev pub invariant-loop-j : goal.invariant-loop-j
invariant-loop-j g l = RowsOf (position_at l.plane Middle l.column l.row) g.row.W l.j l.out
