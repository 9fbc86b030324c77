use Rattle.std.proofs.Common.{◌≡◌, ◌+◌, ◌*◌, ℕ, List, get_or, ap, ◌∙◌, arith}
use Rattle.std.proofs.lemmas.List.{get_or-drop}
use Rattle.picture_planes.proofs.Blocks.{tail_is, rows_fit}
use Rattle.block_sums.specs.Tables.{sum_at}
use Rattle.block_sums.proofs.table.SumTable.sums_from.Goals as goal

pub returns-clause-value : goal.returns-clause-value
unfolding sum_at
returns-clause-value c i =
    let e : c.args.row * (c.args.self.now.width + 2 * c.args.self.now.pad) + c.args.column + i ≡ c.args.row * (c.args.self.now.width + 2 * c.args.self.now.pad) + (c.args.column + i) = omega arith in
    rw (tail_is (c.args.row * (c.args.self.now.width + 2 * c.args.self.now.pad) + c.args.column) c.deref.result.now)
    (get_or-drop (c.args.row * (c.args.self.now.width + 2 * c.args.self.now.pad) + c.args.column) c.deref.result.now i 0
    ∙ ap (λ (n : ℕ). get_or c.deref.result.now n 0) e ∙ ap (λ (l : List ℕ). get_or l (c.args.row * (c.args.self.now.width + 2 * c.args.self.now.pad) + (c.args.column + i)) 0) c.deref.ensures.value)

pub returns-clause-len : goal.returns-clause-len
returns-clause-len c w h p q s =
    rw (tail_is (c.args.row * (c.args.self.now.width + 2 * c.args.self.now.pad) + c.args.column) c.deref.result.now)
    (rows_fit c.deref.result.now (c.args.self.now.width + 2 * c.args.self.now.pad) (c.args.self.now.height + 2 * c.args.self.now.pad) c.args.column c.args.row w h (let e = c.deref.ensures.value in let n = c.args.self.now.whole in omega arith) p q s)
