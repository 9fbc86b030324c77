use Rattle.std.proofs.Common.{◌*◌}
use Rattle.spec_inter.specs.Blocks.{RowsOf}
use Rattle.subpel_filter.specs.Near.{whole_at}
use Rattle.subpel_filter.proofs.blocks.whole_block.Given as goal

abbrev pub invariant-loop-q : goal.invariant-loop-q
invariant-loop-q g l = RowsOf (whole_at l.plane l.k l.l l.column l.row) g.row.W (4 * l.q) l.out
