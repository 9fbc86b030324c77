use Rattle.std.proofs.Common.{arith}
use Rattle.std.proofs.lemmas.Int.{ints}
use Rattle.transform_quant.proofs.inverse8x8.even.Goals as goal

pub returns-clause-third_size : goal.returns-clause-third_size
returns-clause-third_size c = record { low = omega (arith, ints); high = omega (arith, ints) }
