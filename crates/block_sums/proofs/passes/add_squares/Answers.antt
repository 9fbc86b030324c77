use Rattle.std.proofs.Common.{◌*◌, ℕ, List, subst, arith}
use Rattle.block_sums.specs.Passes.{SquareAhead}
use Rattle.block_sums.proofs.Doubling.{square_ahead, most_of, bytes_low}
use Rattle.block_sums.proofs.passes.add_squares.Goals as goal

pub add_eight-requires-2-clause-low : goal.add_eight-requires-2-clause-low
add_eight-requires-2-clause-low c =
    most_of (8 * 255) 4095 _ (omega arith) (c.add_eight.ensures.most 255 (omega arith) (bytes_low c.widen.new.sums c.args.samples.now c.widen.ensures c.type_inv.samples))

pub returns : goal.returns
returns c =
    subst (λ (s : List ℕ). SquareAhead c.args.width s c.add_eight-2.new.sums) c.widen.ensures
    (square_ahead c.args.width c.widen.new.sums c.add_eight.new.sums c.add_eight-2.new.sums c.add_eight.ensures.value c.add_eight-2.ensures.value)
