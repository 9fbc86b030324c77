-- The forward transforms, which the standard leaves free: those to which its inverse transforms belong.
use Rattle.std.specs.Prelude.{ℤ, List, ◌/◌, ◌%◌}
use Rattle.enc_tables.specs.declared.transform.TheConstants.{FORWARD4, FORWARD8, HADAMARD4, HADAMARD2}
use Rattle.spec_residual.specs.Blocks.{listed, rows_of, block, transformed, rounded}

-- C·X·Cᵀ of a 4x4 block
unfoldable pub forward4_of : List ℤ → List ℤ
forward4_of xs = listed 16 (λ p. transformed 4 (rows_of FORWARD4) (block 4 xs) (p / 4) (p % 4))

-- (C·X·Cᵀ + 32) >> 6 of an 8x8 block
unfoldable pub forward8_of : List ℤ → List ℤ
forward8_of xs = listed 64 (λ p. rounded 5 (transformed 8 (rows_of FORWARD8) (block 8 xs) (p / 8) (p % 8)))

-- (H·X·Hᵀ + 1) >> 1 of the luma DC coefficients
unfoldable pub luma_dc_of : List ℤ → List ℤ
luma_dc_of xs = listed 16 (λ p. rounded 0 (transformed 4 (rows_of HADAMARD4) (block 4 xs) (p / 4) (p % 4)))

-- H·X·Hᵀ of the chroma DC coefficients
unfoldable pub chroma_dc_of : List ℤ → List ℤ
chroma_dc_of xs = listed 4 (λ p. transformed 2 (rows_of HADAMARD2) (block 2 xs) (p / 2) (p % 2))
