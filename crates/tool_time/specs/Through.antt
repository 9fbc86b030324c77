-- What becomes of a block's differences that are coded by their levels alone.
use Rattle.std.specs.Prelude.{ℕ, ℤ, Bool, List}
use Rattle.spec_residual.specs.declared.BlockKind.{BlockKind}
use Rattle.spec_residual.specs.declared.BlockKind.TheVariants.{Luma4, Luma8}
use Rattle.spec_residual.specs.Blocks.{AllWithin, item, listed}
use Rattle.spec_residual.specs.Forward.{forward4_of, forward8_of}
use Rattle.spec_residual.specs.Inverse.{inverse4_of, inverse8_of}
use Rattle.spec_residual.specs.Levels.{level_of}
use Rattle.spec_residual.specs.Rescaled.{rescaled}

-- n differences of samples
abbrev pub IsDifferences : ℕ → List ℤ → Type 0
IsDifferences n xs = AllWithin n 255 xs

-- the coefficient at place p that a decoder makes of the level of a coefficient c
abbrev pub remade : BlockKind → Bool → ℕ → ℕ → ℤ → ℤ
remade kind intra qp p c = rescaled kind qp p (level_of kind intra qp p c)

-- the n coefficients that a decoder makes of the levels of these
unfoldable pub all_remade : ℕ → BlockKind → Bool → ℕ → List ℤ → List ℤ
all_remade n kind intra qp cs = listed n (λ p. remade kind intra qp p (item cs p))

-- a 4x4 block transformed, quantised, rescaled and transformed back
abbrev pub through4 : Bool → ℕ → List ℤ → List ℤ
through4 intra qp r = inverse4_of (all_remade 16 Luma4 intra qp (forward4_of r))

-- an 8x8 block likewise
abbrev pub through8 : Bool → ℕ → List ℤ → List ℤ
through8 intra qp r = inverse8_of (all_remade 64 Luma8 intra qp (forward8_of r))
