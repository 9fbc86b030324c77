-- Levels that the quantiser made.
use Rattle.std.specs.Prelude.{ℕ, ℤ, pos, Bool, List, ◌∷◌, drop, slice_index, ◌<◌}
use Rattle.enc_tables.specs.declared.transform.TheConstants.{ZIGZAG4, ZIGZAG8}
use Rattle.spec_residual.specs.declared.BlockKind.{BlockKind}
use Rattle.spec_residual.specs.declared.BlockKind.TheVariants.{Luma8, Chroma4, ChromaDc}
use Rattle.spec_residual.specs.Blocks.{AllWithin, item}
use Rattle.spec_residual.specs.Levels.{IsMade}
use Rattle.spec_reconstruction.specs.declared.Site.{Site}
use Rattle.spec_reconstruction.specs.InOrder.{joined, levels_of_block}
use Rattle.spec_reconstruction.specs.Chroma.{spectrum_chroma}
use Rattle.spec_reconstruction.specs.Residuals.{levels_without_dc}

-- each level of a 4x4 block, in zigzag order
abbrev pub AllMade4 : BlockKind → Bool → ℕ → List ℤ → Type 0
AllMade4 kind intra qp levels = (s : ℕ) → s < 16 → IsMade kind intra qp (slice_index ZIGZAG4 s) (item levels s)

-- each level of an 8x8 luma block, in zigzag order
abbrev pub AllMade8 : Bool → ℕ → List ℤ → Type 0
AllMade8 intra qp levels = (s : ℕ) → s < 64 → IsMade Luma8 intra qp (slice_index ZIGZAG8 s) (item levels s)

-- a 4x4 block's levels, which were made with one of the two roundings and are small
pub record IsQuantised (kind : BlockKind) (qp : ℕ) (levels : List ℤ) : Type 0 where
  pub intra : Bool
  pub small : AllWithin 16 8191 levels
  pub made : AllMade4 kind intra qp levels

-- and of an 8x8 luma block
pub record IsQuantised8 (qp : ℕ) (levels : List ℤ) : Type 0 where
  pub intra : Bool
  pub small : AllWithin 64 8191 levels
  pub made : AllMade8 intra qp levels

-- of each of the first n blocks of a chroma component, a 0 in the place of the DC level
abbrev pub FoursQuantised : ℕ → ℕ → List ℤ → Type 0
FoursQuantised qp n ac = (b : ℕ) → b < n → IsQuantised Chroma4 qp (pos 0 ∷ levels_of_block 15 b ac)

-- the DC levels of a chroma component, and its AC levels
pub record ChromaQuantised (qp : ℕ) (dc ac : List ℤ) : Type 0 where
  pub intra : Bool
  pub small : AllWithin 4 8191 dc
  pub made : (p : ℕ) → p < 4 → IsMade ChromaDc intra qp p (item dc p)
  pub others : FoursQuantised qp 4 ac

-- the AC levels of the four blocks of a chroma component, one after another, by its own quantisation parameter
unfoldable pub others_chroma : Bool → ℕ → Site → ℕ → List ℕ → List ℕ → List ℤ
others_chroma intra wide site qp source prediction = joined (λ b. drop 1 (levels_without_dc Chroma4 intra qp (spectrum_chroma wide site source prediction b))) 4
