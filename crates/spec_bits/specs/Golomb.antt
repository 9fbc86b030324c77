-- Exp-Golomb codes (ITU-T H.264, clause 9.1), and the bits that fill a byte.
use Rattle.std.specs.Prelude.{ℕ, zero, suc, ◌+◌, ◌-◌, ◌*◌, ◌%◌, Bool, true, false, List, ◌∷◌, ◌++◌, ℤ, pos, negsuc, replicate}
use Rattle.std.specs.Int.{leading_zeros, w64}
use Rattle.spec_bits.specs.Bits.{digits}

-- how many binary digits a number below 2^64 has
abbrev pub digit_count : ℕ → ℕ
digit_count n = 64 - leading_zeros w64 n

-- ue(v): the binary digits of v + 1, behind as many zeros as follow the first of them
unfoldable pub ue_bits : ℕ → List Bool
ue_bits v = replicate (digit_count (v + 1) - 1) false ++ digits (digit_count (v + 1)) (v + 1)

-- the place of a signed number in the order 0, 1, −1, 2, −2 and so on (clause 9.1.1, table 9-3)
abbrev pub signed_place : ℤ → ℕ
signed_place (pos zero) = 0
signed_place (pos (suc n)) = 2 * n + 1
signed_place (negsuc n) = 2 * n + 2

-- se(v)
unfoldable pub se_bits : ℤ → List Bool
se_bits v = ue_bits (signed_place v)

-- rbsp_trailing_bits behind this many bits: a 1, and zeros to the byte (clause 7.3.2.11)
unfoldable pub trail_bits : ℕ → List Bool
trail_bits n = true ∷ replicate (7 - n % 8) false

-- how many bits are missing to the byte behind this many
abbrev pub to_byte : ℕ → ℕ
to_byte n = (8 - n % 8) % 8

-- zeros to the byte behind this many bits, as pcm_alignment_zero_bit (clause 7.3.5)
unfoldable pub align_bits : ℕ → List Bool
align_bits n = replicate (to_byte n) false
