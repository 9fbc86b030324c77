use Rattle.std.proofs.Common.{◌*◌, arith}
use Rattle.block_sums.proofs.Doubling.{eight_ahead, most_of}
use Rattle.block_sums.proofs.passes.add_eight.Goals as goal

pub returns : goal.returns
returns c = record {
  value = eight_ahead c.args.ahead _ _ _ _ c.add_ahead.ensures.value c.add_ahead-2.ensures.value c.add_ahead-3.ensures.value;
  most = λ b p h.
      most_of (2 * (2 * (2 * b))) (8 * b) _ (omega arith)
      (c.add_ahead-3.ensures.most (2 * (2 * b)) (omega arith) (c.add_ahead-2.ensures.most (2 * b) (omega arith) (c.add_ahead.ensures.most b (omega arith) h)));
}
