use Rattle.std.proofs.Common.{arith}
use Rattle.mode_choice.proofs.samples.lemma_bytes_fit.Goals as goal

pub returns : goal.returns
returns c k = omega (arith, c.type_inv.bytes k)
