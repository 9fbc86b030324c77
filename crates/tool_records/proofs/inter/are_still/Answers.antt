use Rattle.std.proofs.Common.{arith, sym, ◌∙◌}
use Rattle.tool_records.proofs.Spread.{still}
use Rattle.tool_records.proofs.inter.are_still.Goals as goal

pub returns : goal.returns
returns c = λ t. still c.args.mb.now.mvd (sym c.count.ensures ∙ c.if-count-ne8.false) (λ i lt. c.loop-place.invariant i (omega (arith, lt, c.loop-place-test.false)))
