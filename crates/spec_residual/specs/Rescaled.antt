-- Rescaling: what a decoder makes of levels (ITU-T H.264, clauses 8.5.9 to 8.5.13, with flat scaling lists).
use Rattle.std.specs.Prelude.{ℕ, zero, suc, ℤ, pos, ◌*ℤ◌, List, slice_index, ◌*◌, ◌/◌, ◌%◌, ◌^◌}
use Rattle.std.specs.Int.{int_shr}
use Rattle.enc_tables.specs.declared.transform.TheConstants.{SCALING4, SCALING8, CLASS4, CLASS8, HADAMARD4, HADAMARD2}
use Rattle.spec_residual.specs.declared.BlockKind.{BlockKind}
use Rattle.spec_residual.specs.declared.BlockKind.TheVariants.{Luma4, Luma8, LumaDc, Chroma4, ChromaDc}
use Rattle.spec_residual.specs.Blocks.{listed, rows_of, block, transformed, rounded, in_table}

-- the scaling of place p, row by row
unfoldable pub scaling : BlockKind → ℕ → ℕ → ℕ
scaling Luma4 qp p = in_table SCALING4 (qp % 6) (slice_index CLASS4 p)
scaling Luma8 qp p = in_table SCALING8 (qp % 6) (slice_index CLASS8 p)
scaling LumaDc qp p = in_table SCALING4 (qp % 6) 0
scaling Chroma4 qp p = in_table SCALING4 (qp % 6) (slice_index CLASS4 p)
scaling ChromaDc qp p = in_table SCALING4 (qp % 6) 0

-- x·2^k / 4, rounded to the nearest whole number: x·2^(k − 2), or (x + 2^(1 − k)) >> (2 − k) where k is below 2
abbrev pub quarter_scaled : ℕ → ℤ → ℤ
quarter_scaled zero x = rounded 1 x
quarter_scaled (suc zero) x = rounded 0 x
quarter_scaled (suc (suc k)) x = x *ℤ pos (2 ^ k)

-- the coefficient of a level at place p, row by row
unfoldable pub rescaled : BlockKind → ℕ → ℕ → ℤ → ℤ
rescaled Luma4 qp p level = level *ℤ pos (scaling Luma4 qp p * 2 ^ (qp / 6))
rescaled Luma8 qp p level = quarter_scaled (qp / 6) (level *ℤ pos (scaling Luma8 qp p))
rescaled LumaDc qp p sum = quarter_scaled (qp / 6) (sum *ℤ pos (scaling LumaDc qp p))
rescaled Chroma4 qp p level = level *ℤ pos (scaling Chroma4 qp p * 2 ^ (qp / 6))
rescaled ChromaDc qp p sum = int_shr (sum *ℤ pos (scaling ChromaDc qp p * 2 ^ (qp / 6))) 1

-- the DC coefficients of the sixteen 4x4 blocks, row by row (clause 8.5.10): of LumaDc what is scaled is an item of H·X·Hᵀ
unfoldable pub luma_dc_rescaled : ℕ → List ℤ → List ℤ
luma_dc_rescaled qp levels =
    listed 16 (λ p. rescaled LumaDc qp p (transformed 4 (rows_of HADAMARD4) (block 4 levels) (p / 4) (p % 4)))

-- the DC coefficients of the four 4x4 blocks of a chroma component, row by row (clause 8.5.11)
unfoldable pub chroma_dc_rescaled : ℕ → List ℤ → List ℤ
chroma_dc_rescaled qp levels =
    listed 4 (λ p. rescaled ChromaDc qp p (transformed 2 (rows_of HADAMARD2) (block 2 levels) (p / 2) (p % 2)))
