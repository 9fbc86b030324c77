-- Half samples (ITU-T H.264, clause 8.4.2.2.1), and the mean of two samples.
use Rattle.std.specs.Prelude.{ℕ, ℤ, pos, ◌+◌, ◌/◌, ◌+ℤ◌, ◌-ℤ◌, ◌*ℤ◌}
use Rattle.std.specs.Int.{int_shr}
use Rattle.spec_basics.specs.Clip.{clip1}

-- the taps 1, -5, 20, 20, -5, 1
abbrev pub tap : ℤ → ℤ → ℤ → ℤ → ℤ → ℤ → ℤ
tap a b c d e f = a -ℤ pos 5 *ℤ b +ℤ pos 20 *ℤ c +ℤ pos 20 *ℤ d -ℤ pos 5 *ℤ e +ℤ f

-- the half sample of taps over samples
abbrev pub half : ℤ → ℕ
half v = clip1 (int_shr (v +ℤ pos 16) 5)

-- the half sample of taps over taps that aren't rounded
abbrev pub half_twice : ℤ → ℕ
half_twice v = clip1 (int_shr (v +ℤ pos 512) 10)

-- the rounded mean of two samples: of two half samples (equations 8-250 and following), or of the predictions from two
-- lists (clause 8.4.2.3.1)
abbrev pub mean : ℕ → ℕ → ℕ
mean p q = (p + q + 1) / 2
