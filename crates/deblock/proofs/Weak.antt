-- The difference that the two samples at an edge move by, before it is divided.
use Rattle.std.proofs.Common.{◌≡◌, ℕ, ◌+◌, ◌*◌, pos, ◌+ℤ◌, ◌-ℤ◌, ◌*ℤ◌, arith}
use Rattle.std.proofs.lemmas.Int.{ints}

pub raw_is : (p1 p0 q0 q1 : ℕ) → pos (4 * q0 + p1 + 4) -ℤ pos (4 * p0 + q1) ≡ pos 4 *ℤ (pos q0 -ℤ pos p0) +ℤ (pos p1 -ℤ pos q1) +ℤ pos 4
raw_is p1 p0 q0 q1 = omega (arith, ints)
