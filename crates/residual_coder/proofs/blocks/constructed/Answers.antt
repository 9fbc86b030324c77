use Rattle.std.proofs.Common.{arith}
use Rattle.residual_coder.proofs.BlockLaws.{constructed_is}
use Rattle.residual_coder.proofs.blocks.constructed.Goals as goal

pub returns : goal.returns
returns g c = constructed_is g.row.N c.args.prediction.now c.args.residual.now c.loop-k.out c.loop-k.invariant.long (λ k h. c.loop-k.invariant.done k (omega arith))
