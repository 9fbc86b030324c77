use Rattle.std.proofs.Common.{◌∙◌, arith, w32}
use Rattle.std.proofs.lemmas.Int.{ints, to_z-of_z}
use Rattle.block_sums.proofs.Tables.{sum_of_place}
use Rattle.block_sums.proofs.table.SumTable.sum8.Goals as goal

pub returns : goal.returns
returns c p h =
    let x = rw (to_z-of_z w32 c.args.x c.ranges.x) at c.from_corner.ensures in
    let y = rw (to_z-of_z w32 c.args.y c.ranges.y) at c.from_corner-2.ensures in
    c.sum_from.ensures.value ∙ sum_of_place c.args.self.now p c.args.x c.args.y c.from_corner.result c.from_corner-2.result h x y (omega (arith, ints)) (omega (arith, ints))
