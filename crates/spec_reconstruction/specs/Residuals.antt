-- Residuals of blocks: what levels become (ITU-T H.264, clauses 8.5.1 to 8.5.15), and which levels a difference gives.
use Rattle.std.specs.Prelude.{ℕ, ℤ, pos, ◌+ℤ◌, ◌-ℤ◌, Bool, List, map, replicate, slice_index, slice_set}
use Rattle.std.specs.List.{range_with_len}
use Rattle.enc_tables.specs.declared.transform.TheConstants.{ZIGZAG4, ZIGZAG8}
use Rattle.spec_basics.specs.Clip.{clip1}
use Rattle.enc_tables.specs.Steps.{steps}
use Rattle.spec_residual.specs.declared.BlockKind.{BlockKind}
use Rattle.spec_residual.specs.declared.BlockKind.TheVariants.{Luma4, Luma8}
use Rattle.spec_residual.specs.Blocks.{item, listed}
use Rattle.spec_residual.specs.Forward.{forward4_of, forward8_of}
use Rattle.spec_residual.specs.Inverse.{inverse4_of, inverse8_of}
use Rattle.spec_residual.specs.Levels.{levels4_of, levels8_of}
use Rattle.spec_residual.specs.Rescaled.{rescaled}

-- what a block of n samples differs from its prediction
unfoldable pub differences : ℕ → List ℕ → List ℕ → List ℤ
differences n source prediction = listed n (λ k. pos (slice_index source k) -ℤ pos (slice_index prediction k))

-- prediction and residual of n samples together (clause 8.5.14)
unfoldable pub constructed : ℕ → List ℕ → List ℤ → List ℕ
constructed n prediction residual = map (λ k. clip1 (pos (slice_index prediction k) +ℤ item residual k)) (range_with_len 0 n)

-- the coefficients of a 4x4 block, row by row, from its levels in the order of the zigzag scan (clauses 8.5.6 and 8.5.12.1)
unfoldable pub coefficients4 : BlockKind → ℕ → List ℤ → List ℤ
coefficients4 kind qp levels =
    steps (λ s c. slice_set c (slice_index ZIGZAG4 s) (rescaled kind qp (slice_index ZIGZAG4 s) (item levels s))) 16 (replicate 16 (pos 0))

-- the coefficients of an 8x8 luma block, row by row, from its levels in the order of the zigzag scan (clauses 8.5.7 and 8.5.13.1)
unfoldable pub coefficients8 : ℕ → List ℤ → List ℤ
coefficients8 qp levels =
    steps (λ s c. slice_set c (slice_index ZIGZAG8 s) (rescaled Luma8 qp (slice_index ZIGZAG8 s) (item levels s))) 64 (replicate 64 (pos 0))

-- the samples of a 4x4 luma block from its levels (clause 8.5.1)
unfoldable pub built4 : ℕ → List ℤ → List ℕ → List ℕ
built4 qp levels prediction = constructed 16 prediction (inverse4_of (coefficients4 Luma4 qp levels))

-- the samples of an 8x8 luma block from its levels (clause 8.5.3)
unfoldable pub built8 : ℕ → List ℤ → List ℕ → List ℕ
built8 qp levels prediction = constructed 64 prediction (inverse8_of (coefficients8 qp levels))

-- the samples of a 4x4 block whose DC coefficient is given apart from its levels (clauses 8.5.2 and 8.5.4)
unfoldable pub built_with_dc : BlockKind → ℕ → ℤ → List ℤ → List ℕ → List ℕ
built_with_dc kind qp dc levels prediction =
    constructed 16 prediction (inverse4_of (slice_set (coefficients4 kind qp levels) 0 dc))

-- ---- our own way forward

-- the coefficients of a 4x4 block's difference from its prediction
unfoldable pub spectrum4 : List ℕ → List ℕ → List ℤ
spectrum4 source prediction = forward4_of (differences 16 source prediction)

unfoldable pub spectrum8 : List ℕ → List ℕ → List ℤ
spectrum8 source prediction = forward8_of (differences 64 source prediction)

-- the levels of a 4x4 luma block
unfoldable pub luma_levels4 : Bool → ℕ → List ℕ → List ℕ → List ℤ
luma_levels4 intra qp source prediction = levels4_of Luma4 intra qp (spectrum4 source prediction)

-- the levels of an 8x8 luma block
unfoldable pub luma_levels8 : Bool → ℕ → List ℕ → List ℕ → List ℤ
luma_levels8 intra qp source prediction = levels8_of intra qp (spectrum8 source prediction)

-- the levels of a 4x4 block whose DC coefficient is coded apart: the first is that of 0
unfoldable pub levels_without_dc : BlockKind → Bool → ℕ → List ℤ → List ℤ
levels_without_dc kind intra qp spectrum = levels4_of kind intra qp (slice_set spectrum 0 (pos 0))
