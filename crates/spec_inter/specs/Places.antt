-- Where a vector leads: whole places and fractions (ITU-T H.264, clause 8.4.2.2).
use Rattle.std.specs.Prelude.{ℕ, ℤ, pos, negsuc, ◌-◌, ◌/◌, ◌%◌}

-- a number of n-ths, rounded down to a whole number
abbrev pub whole : ℕ → ℤ → ℤ
whole n (pos k) = pos (k / n)
whole n (negsuc k) = negsuc (k / n)

-- the n-ths that are left
abbrev pub fraction : ℕ → ℤ → ℕ
fraction n (pos k) = k % n
fraction n (negsuc k) = n - 1 - k % n
