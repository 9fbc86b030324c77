use Rattle.std.proofs.Common.{arith}
use Rattle.slice_coder.proofs.samples.lemma_bytes_fit.Goals as goal

pub returns : goal.returns
returns c = record { at = λ k. omega (arith, c.type_inv.bytes k) }
