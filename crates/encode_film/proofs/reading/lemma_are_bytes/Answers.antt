use Rattle.std.proofs.Common.{arith}
use Rattle.std.proofs.lemmas.List.Elements.{All-from_get_or}
use Rattle.spec_bits.specs.Bits.{IsByte}
use Rattle.encode_film.proofs.reading.lemma_are_bytes.Goals as goal

pub returns : goal.returns
returns c = All-from_get_or IsByte c.args.bytes.now 0 (λ i within. omega (arith, c.type_inv.bytes i))
