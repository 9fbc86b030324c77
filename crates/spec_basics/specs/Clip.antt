-- Clipping to a range (ITU-T H.264, clause 5.7).
use Rattle.std.specs.Prelude.{ℕ, min, ℤ, pos, negsuc}
use Rattle.std.specs.Int.{int_min, int_max}

-- Clip3: the nearest number from low to high
abbrev pub clip3 : ℤ → ℤ → ℤ → ℤ
clip3 low high x = int_max low (int_min x high)

-- Clip1 for samples of eight bits: the nearest number from 0 to 255
abbrev pub clip1 : ℤ → ℕ
clip1 (pos n) = min n 255
clip1 (negsuc n) = 0
