-- Blocks of Intra_16x16 macroblocks, step by step.
use Rattle.std.proofs.Common.{◌≡◌, ◌+◌, ◌*◌, ℕ, ℤ, true, List, ap, ap₂, ◌∙◌}
use Rattle.spec_basics.specs.Blocks.{block_column, block_row}
use Rattle.spec_intra.specs.Near.{plane_sample, neighbours16}
use Rattle.spec_intra.specs.declared.Nb16.{Nb16}
use Rattle.intra_coder.specs.Made.{others16}
use Rattle.spec_intra.specs.Predictions.{predicted16}
use Rattle.spec_residual.specs.declared.BlockKind.TheVariants.{Luma4, LumaDc}
use Rattle.spec_residual.specs.Blocks.{item}
use Rattle.spec_residual.specs.Forward.{luma_dc_of}
use Rattle.spec_residual.specs.Levels.{levels4_of}
use Rattle.spec_residual.specs.Rescaled.{luma_dc_rescaled}
use Rattle.spec_reconstruction.specs.declared.Site.{Site}
use Rattle.spec_reconstruction.specs.Parts.{block_at, with_block}
use Rattle.spec_reconstruction.specs.Residuals.{built_with_dc, spectrum4, levels_without_dc}
use Rattle.spec_reconstruction.specs.InOrder.{joined, levels_of_block, built_in_order}
use Rattle.spec_reconstruction.specs.Luma.{part16, place16, prediction16, build16, spectrum16, firsts16, luma16_built, luma16_dc, luma16_levels, unscanned}

module _ (wide : ℕ) (site : Site) where
  pub spectrum16_is : (source prediction : List ℕ) (b column row : ℕ) (original part : List ℕ) (c : List ℤ) → column ≡ block_column b → row ≡ block_row b
      → original ≡ block_at wide (site.x + 4 * column) (site.y + 4 * row) 4 source → part ≡ part16 prediction b → c ≡ spectrum4 original part
      → c ≡ spectrum16 wide site source prediction b
  unfolding spectrum16
  spectrum16_is source prediction b column row original part c e f g h i =
      i ∙ ap₂ (λ (s p : List ℕ). spectrum4 s p) (g ∙ ap₂ (λ (c r : ℕ). block_at wide (site.x + 4 * c) (site.y + 4 * r) 4 source) e f) h

  pub build16_is : (prediction : List ℕ) (dcs : List ℤ) (b : ℕ) (levels : List ℤ) (plane new : List ℕ) (column row place : ℕ) (part : List ℕ) (block : List ℤ) (dc : ℤ) (samples : List ℕ)
      → column ≡ block_column b → row ≡ block_row b → place ≡ place16 b → part ≡ part16 prediction b → block ≡ levels_of_block 16 b levels → dc ≡ item dcs place
      → samples ≡ built_with_dc Luma4 site.qp dc block part → new ≡ with_block wide (site.x + 4 * column) (site.y + 4 * row) 4 samples plane
      → new ≡ build16 wide site prediction dcs b (levels_of_block 16 b levels) plane
  unfolding build16
  build16_is prediction dcs b levels plane new column row place part block dc samples e f p g l d s w =
      w ∙ ap (λ (q : List ℕ). with_block wide (site.x + 4 * column) (site.y + 4 * row) 4 q plane)
      (s ∙ ap₂ (λ (z : ℤ) (m : List ℤ). built_with_dc Luma4 site.qp z m part) (d ∙ ap (λ (n : ℕ). item dcs n) p) l
      ∙ ap (λ (q : List ℕ). built_with_dc Luma4 site.qp (item dcs (place16 b)) (levels_of_block 16 b levels) q) g)
      ∙ ap₂ (λ (c r : ℕ). with_block wide (site.x + 4 * c) (site.y + 4 * r) 4 (built_with_dc Luma4 site.qp (item dcs (place16 b)) (levels_of_block 16 b levels) (part16 prediction b)) plane) e f

  pub prediction16_is : (mode : ℕ) (plane : List ℕ) (near : Nb16) (p : List ℕ) → near ≡ neighbours16 (plane_sample wide plane) site.near site.x site.y → p ≡ predicted16 mode near → p ≡ prediction16 wide site mode plane
  unfolding prediction16
  prediction16_is mode plane near p e f = f ∙ ap (λ (n : Nb16). predicted16 mode n) e

  pub luma16_dc_is : (mode : ℕ) (source plane p : List ℕ) (wide' : ℕ) (firsts means levels : List ℤ) → p ≡ prediction16 wide site mode plane → wide' ≡ wide
      → firsts ≡ firsts16 wide' site source p → means ≡ luma_dc_of firsts → levels ≡ levels4_of LumaDc true site.qp means → levels ≡ luma16_dc wide site mode source plane
  unfolding luma16_dc
  luma16_dc_is mode source plane p wide' firsts means levels e w f g h =
      h ∙ ap (λ (l : List ℤ). levels4_of LumaDc true site.qp l) (g ∙ ap (λ (l : List ℤ). luma_dc_of l)
      (f ∙ ap₂ (λ (v : ℕ) (q : List ℕ). firsts16 v site source q) w e))

  pub luma16_levels_are : (mode : ℕ) (source plane p : List ℕ) (wide' : ℕ) (levels : List ℤ) → p ≡ prediction16 wide site mode plane → wide' ≡ wide
      → levels ≡ others16 wide' site source p → levels ≡ luma16_levels wide site mode source plane
  unfolding luma16_levels others16
  luma16_levels_are mode source plane p wide' levels e w f =
      f ∙ ap₂ (λ (v : ℕ) (q : List ℕ). joined (λ b. levels_without_dc Luma4 true site.qp (spectrum16 v site source q b)) 16) w e

  pub luma16_is_built : (mode : ℕ) (plane new p : List ℕ) (dc rows dcs levels : List ℤ) → p ≡ prediction16 wide site mode plane → rows ≡ unscanned dc → dcs ≡ luma_dc_rescaled site.qp rows
      → new ≡ built_in_order (build16 wide site p dcs) 16 levels 16 plane → new ≡ luma16_built wide site mode dc levels plane
  unfolding luma16_built
  luma16_is_built mode plane new p dc rows dcs levels e f g h =
      h ∙ ap₂ (λ (q : List ℕ) (d : List ℤ). built_in_order (build16 wide site q d) 16 levels 16 plane) e (g ∙ ap (λ (l : List ℤ). luma_dc_rescaled site.qp l) f)
