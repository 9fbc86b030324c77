-- Worked numbers: the definitions computed.
use Rattle.std.proofs.Common.{◌≡◌, ℤ, pos, true, List, [], ◌∷◌, refl}
use Rattle.spec_residual.specs.declared.BlockKind.TheVariants.{Luma4, ChromaDc}
use Rattle.spec_residual.specs.Blocks.{listed}
use Rattle.spec_residual.specs.Forward.{forward4_of}
use Rattle.spec_residual.specs.Levels.{levels4_of, level_of, multiplier, rounding, shift}
use Rattle.spec_residual.specs.Rescaled.{rescaled, scaling, chroma_dc_rescaled}
use Rattle.spec_residual.specs.Inverse.{inverse4_of}

abbrev white : List ℤ
white = listed 16 (λ p. pos 255)

abbrev first_only : ℤ → List ℤ
first_only x = x ∷ pos 0 ∷ pos 0 ∷ pos 0 ∷ pos 0 ∷ pos 0 ∷ pos 0 ∷ pos 0 ∷ pos 0 ∷ pos 0 ∷ pos 0 ∷ pos 0 ∷ pos 0 ∷ pos 0 ∷ pos 0 ∷ pos 0 ∷ []

-- a residual of 255 everywhere
white_forward : forward4_of white ≡ first_only (pos 4080)
unfolding forward4_of listed
white_forward = refl

white_levels : levels4_of Luma4 true 0 (first_only (pos 4080)) ≡ first_only (pos 1632)
unfolding levels4_of listed level_of multiplier rounding shift
white_levels = refl

white_rescaled : rescaled Luma4 0 0 (pos 1632) ≡ pos 16320
unfolding rescaled scaling
white_rescaled = refl

white_inverse : inverse4_of (first_only (pos 16320)) ≡ white
unfolding inverse4_of listed
white_inverse = refl

one_chroma_dc : chroma_dc_rescaled 0 (pos 1 ∷ pos 0 ∷ pos 0 ∷ pos 0 ∷ []) ≡ pos 5 ∷ pos 5 ∷ pos 5 ∷ pos 5 ∷ []
unfolding chroma_dc_rescaled rescaled scaling listed
one_chroma_dc = refl

no_chroma_dc : level_of ChromaDc true 0 0 (pos 0) ≡ pos 0
unfolding level_of multiplier rounding shift
no_chroma_dc = refl
