-- Sizes in macroblocks.
use Rattle.std.specs.Prelude.{ℕ, ◌+◌, ◌/◌}

-- how many macroblocks of 16 samples cover this many samples
abbrev pub in_macroblocks : ℕ → ℕ
in_macroblocks samples = (samples + 15) / 16
