use Rattle.std.proofs.Common.{◌+◌, ◌*◌, ◌∙◌, ℕ, arith, ap, get_or, List}
use Rattle.std.proofs.lemmas.List.{with_items_is}
use Rattle.block_sums.specs.Tables.{sum_at}
use Rattle.block_sums.proofs.Tables.{sums_filled}
use Rattle.block_sums.proofs.table.SumTable.fill.Goals as goal

pub returns : goal.returns
unfolding sum_at
returns c =
    let items = with_items_is c.args.self.now.sums c.add_squares.new.sums (omega arith) in
    record {
      shape = record { width = c.requires.shape.width; height = c.requires.shape.height; pad = c.requires.shape.pad };
      sums = λ k r m n.
          ap (λ (xs : List ℕ). get_or xs (r * (c.args.self.now.width + 2 * c.args.self.now.pad) + k) 0) items
          ∙ sums_filled c.add_squares.new.sums c.args.self.now.width c.args.self.now.height c.args.self.now.pad c.args.plane.now c.rows_from.result.now
          c.requires.shape.width c.requires.shape.height c.requires.shape.pad c.requires.filled c.rows_from.ensures.value c.add_squares.ensures (omega arith) k r m n;
    }
