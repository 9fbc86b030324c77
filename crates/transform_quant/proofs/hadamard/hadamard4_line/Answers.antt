use Rattle.std.proofs.Common.{arith}
use Rattle.std.proofs.lemmas.Int.{ints}
use Rattle.transform_quant.proofs.hadamard.hadamard4_line.Goals as goal

pub plus-requires : goal.plus-requires
plus-requires c = record { low = omega (arith, ints); high = omega (arith, ints) }

pub plus-requires-2 : goal.plus-requires-2
plus-requires-2 c = record { low = omega (arith, ints); high = omega (arith, ints) }

pub minus-requires : goal.minus-requires
minus-requires c = record { low = omega (arith, ints); high = omega (arith, ints) }

pub minus-requires-2 : goal.minus-requires-2
minus-requires-2 c = record { low = omega (arith, ints); high = omega (arith, ints) }
