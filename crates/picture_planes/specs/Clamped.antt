-- Sizes.
use Rattle.std.specs.Prelude.{ℕ, zero, suc, ◌*◌}
use Rattle.spec_basics.specs.Sizes.{in_macroblocks}

-- the least multiple of 16 that is not below n
abbrev pub rounded : ℕ → ℕ
rounded n = in_macroblocks n * 16

-- the first row of a macroblock row in plane k: a macroblock has 16 rows of luma and 8 of each chroma plane
abbrev pub top_of : ℕ → ℕ → ℕ
top_of mb_row zero = 16 * mb_row
top_of mb_row (suc k) = 8 * mb_row
