use Rattle.std.proofs.Common.{arith}
use Rattle.transform_quant.proofs.Columns.{same_items}
use Rattle.transform_quant.proofs.edges.widened.Goals as goal

pub returns : goal.returns
returns g c = same_items g.row.N _ _ c.loop-p.invariant.long (omega arith) (λ k h. c.loop-p.invariant.same k (omega arith))
