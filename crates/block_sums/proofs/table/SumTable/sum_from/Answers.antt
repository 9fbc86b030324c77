use Rattle.std.proofs.Common.{◌+◌, ◌*◌, ◌∙◌, arith}
use Rattle.block_sums.specs.Tables.{sum_at}
use Rattle.block_sums.proofs.Tables.{any_default, in_table}
use Rattle.block_sums.proofs.table.SumTable.sum_from.Goals as goal

pub returns-clause-value : goal.returns-clause-value
unfolding sum_at
returns-clause-value c =
    c.index.ensures
    ∙ any_default c.args.self.now.sums.items (c.args.row * (c.args.self.now.width + 2 * c.args.self.now.pad) + c.args.column) c.index.result.now 0
    (in_table c.args.row c.args.column (c.args.self.now.width + 2 * c.args.self.now.pad) (c.args.self.now.height + 2 * c.args.self.now.pad) _ c.requires.across c.requires.down (omega arith))
