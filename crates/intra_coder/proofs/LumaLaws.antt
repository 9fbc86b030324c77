-- Blocks of luma samples, step by step.
use Rattle.std.proofs.Common.{◌≡◌, ◌+◌, ◌*◌, ◌/◌, ◌%◌, ℕ, ℤ, true, List, length, get_or, sym, ap, ap₂, ◌∙◌}
use Rattle.spec_intra.specs.declared.Avail.{Avail}
use Rattle.spec_intra.specs.declared.Nb4.{Nb4}
use Rattle.spec_intra.specs.declared.Nb8.{Nb8}
use Rattle.spec_basics.specs.Blocks.{block_column, block_row}
use Rattle.spec_intra.specs.Near.{block_avail, plane_sample, neighbours4, neighbours8}
use Rattle.spec_intra.specs.Predictions.{predicted4, predicted8}
use Rattle.spec_reconstruction.specs.declared.Site.{Site}
use Rattle.spec_reconstruction.specs.Parts.{block_at, with_block}
use Rattle.spec_reconstruction.specs.Residuals.{built4, built8, luma_levels4, luma_levels8}
use Rattle.spec_reconstruction.specs.InOrder.{built_in_order, coded_in_order, levels_in_order}
use Rattle.spec_reconstruction.specs.Luma.{x8, y8, prediction4, prediction8, build4, build8, choose4, choose8, luma4_built, luma4_levels, luma8_built, luma8_levels}
use Rattle.spec_residual.proofs.Listed.{length-listed}
use Rattle.spec_residual.specs.Levels.{levels4_of, levels8_of}
use Rattle.spec_reconstruction.proofs.Rebuilt.{rebuilt}

module _ (wide : ℕ) (site : Site) (modes : List ℕ) (b : ℕ) where
  pub prediction4_is : (plane : List ℕ) (column row : ℕ) (avail : Avail) (near : Nb4) (p : List ℕ) → column ≡ block_column b → row ≡ block_row b
      → avail ≡ block_avail 4 site.near column row → near ≡ neighbours4 (plane_sample wide plane) avail (site.x + 4 * column) (site.y + 4 * row)
      → p ≡ predicted4 (get_or modes b 0) near → p ≡ prediction4 wide site modes b plane
  unfolding prediction4
  prediction4_is plane column row avail near p e f g h i =
      i ∙ ap (λ (n : Nb4). predicted4 (get_or modes b 0) n)
      (h ∙ ap (λ (a : Avail). neighbours4 (plane_sample wide plane) a (site.x + 4 * column) (site.y + 4 * row)) g
      ∙ ap₂ (λ (c r : ℕ). neighbours4 (plane_sample wide plane) (block_avail 4 site.near c r) (site.x + 4 * c) (site.y + 4 * r)) e f)

  pub choose4_is : (source plane : List ℕ) (wide' column row : ℕ) (original p : List ℕ) (levels : List ℤ) → column ≡ block_column b → row ≡ block_row b → wide' ≡ wide
      → original ≡ block_at wide' (site.x + 4 * column) (site.y + 4 * row) 4 source → p ≡ prediction4 wide site modes b plane
      → levels ≡ luma_levels4 true site.qp original p → levels ≡ choose4 wide site modes source b plane
  unfolding choose4
  choose4_is source plane wide' column row original p levels e f w g h i =
      i ∙ ap₂ (λ (s q : List ℕ). luma_levels4 true site.qp s q)
      (g ∙ ap (λ (v : ℕ). block_at v (site.x + 4 * column) (site.y + 4 * row) 4 source) w
      ∙ ap₂ (λ (c r : ℕ). block_at wide (site.x + 4 * c) (site.y + 4 * r) 4 source) e f) h

  pub build4_is : (plane new : List ℕ) (column row : ℕ) (levels : List ℤ) (p samples : List ℕ) → column ≡ block_column b → row ≡ block_row b
      → p ≡ prediction4 wide site modes b plane → samples ≡ built4 site.qp levels p
      → new ≡ with_block wide (site.x + 4 * column) (site.y + 4 * row) 4 samples plane → new ≡ build4 wide site modes b levels plane
  unfolding build4
  build4_is plane new column row levels p samples e f g h i =
      i ∙ ap (λ (s : List ℕ). with_block wide (site.x + 4 * column) (site.y + 4 * row) 4 s plane) (h ∙ ap (λ (q : List ℕ). built4 site.qp levels q) g)
      ∙ ap₂ (λ (c r : ℕ). with_block wide (site.x + 4 * c) (site.y + 4 * r) 4 (built4 site.qp levels (prediction4 wide site modes b plane)) plane) e f

  pub prediction8_is : (plane : List ℕ) (avail : Avail) (near : Nb8) (p : List ℕ)
      → avail ≡ block_avail 2 site.near (b % 2) (b / 2) → near ≡ neighbours8 (plane_sample wide plane) avail (x8 site b) (y8 site b)
      → p ≡ predicted8 (get_or modes b 0) near → p ≡ prediction8 wide site modes b plane
  unfolding prediction8
  prediction8_is plane avail near p g h i =
      i ∙ ap (λ (n : Nb8). predicted8 (get_or modes b 0) n)
      (h ∙ ap (λ (a : Avail). neighbours8 (plane_sample wide plane) a (x8 site b) (y8 site b)) g)

  pub choose8_is : (source plane : List ℕ) (wide' : ℕ) (original p : List ℕ) (levels : List ℤ) → wide' ≡ wide
      → original ≡ block_at wide' (x8 site b) (y8 site b) 8 source → p ≡ prediction8 wide site modes b plane
      → levels ≡ luma_levels8 true site.qp original p → levels ≡ choose8 wide site modes source b plane
  unfolding choose8
  choose8_is source plane wide' original p levels w g h i =
      i ∙ ap₂ (λ (s q : List ℕ). luma_levels8 true site.qp s q) (g ∙ ap (λ (v : ℕ). block_at v (x8 site b) (y8 site b) 8 source) w) h

  pub build8_is : (plane new : List ℕ) (levels : List ℤ) (p samples : List ℕ) → p ≡ prediction8 wide site modes b plane → samples ≡ built8 site.qp levels p
      → new ≡ with_block wide (x8 site b) (y8 site b) 8 samples plane → new ≡ build8 wide site modes b levels plane
  unfolding build8
  build8_is plane new levels p samples g h i =
      i ∙ ap (λ (s : List ℕ). with_block wide (x8 site b) (y8 site b) 8 s plane) (h ∙ ap (λ (q : List ℕ). built8 site.qp levels q) g)

module _ (wide : ℕ) (site : Site) (modes source : List ℕ) where
  length4 : (b : ℕ) (p : List ℕ) → length (choose4 wide site modes source b p) ≡ 16
  unfolding choose4 luma_levels4 levels4_of
  length4 b p = length-listed 16 _

  length8 : (b : ℕ) (p : List ℕ) → length (choose8 wide site modes source b p) ≡ 64
  unfolding choose8 luma_levels8 levels8_of
  length8 b p = length-listed 64 _

  pub luma4_levels_are : (plane : List ℕ) (levels : List ℤ) → levels ≡ levels_in_order (build4 wide site modes) (choose4 wide site modes source) 16 plane → levels ≡ luma4_levels wide site modes source plane
  unfolding luma4_levels
  luma4_levels_are plane levels e = e

  pub luma4_is_built : (plane new : List ℕ) (levels : List ℤ) → levels ≡ levels_in_order (build4 wide site modes) (choose4 wide site modes source) 16 plane
      → new ≡ coded_in_order (build4 wide site modes) (choose4 wide site modes source) 16 plane → new ≡ luma4_built wide site modes levels plane
  unfolding luma4_built
  luma4_is_built plane new levels e f =
      f ∙ sym (rebuilt (build4 wide site modes) (choose4 wide site modes source) 16 16 plane length4)
      ∙ ap (λ (l : List ℤ). built_in_order (build4 wide site modes) 16 l 16 plane) (sym e)

  pub luma8_levels_are : (plane : List ℕ) (levels : List ℤ) → levels ≡ levels_in_order (build8 wide site modes) (choose8 wide site modes source) 4 plane → levels ≡ luma8_levels wide site modes source plane
  unfolding luma8_levels
  luma8_levels_are plane levels e = e

  pub luma8_is_built : (plane new : List ℕ) (levels : List ℤ) → levels ≡ levels_in_order (build8 wide site modes) (choose8 wide site modes source) 4 plane
      → new ≡ coded_in_order (build8 wide site modes) (choose8 wide site modes source) 4 plane → new ≡ luma8_built wide site modes levels plane
  unfolding luma8_built
  luma8_is_built plane new levels e f =
      f ∙ sym (rebuilt (build8 wide site modes) (choose8 wide site modes source) 64 4 plane length8)
      ∙ ap (λ (l : List ℤ). built_in_order (build8 wide site modes) 64 l 4 plane) (sym e)
