use Rattle.std.proofs.Common.{arith}
use Rattle.std.proofs.lemmas.Int.{ints}
use Rattle.transform_quant.proofs.inverse8x8.last.Goals as goal

pub ends-requires-clause-in_4 : goal.ends-requires-clause-in_4
ends-requires-clause-in_4 c = record { low = omega (arith, ints); high = omega (arith, ints) }
