-- Blocks of inter macroblocks, step by step.
use Rattle.std.proofs.Common.{◌≡◌, ◌+◌, ◌*◌, ◌/◌, ℕ, ℤ, List, take, drop, ap, ap₂, ◌∙◌, if◌then◌else◌, arith}
use Rattle.enc_tables.specs.declared.records.MbRecord.{MbRecord}
use Rattle.spec_basics.specs.Blocks.{block_column, block_row}
use Rattle.spec_coded.specs.Levels.{part8, predicted_planes}
use Rattle.spec_film.specs.Films.{Planes}
use Rattle.spec_reconstruction.specs.declared.Site.{Site}
use Rattle.spec_reconstruction.specs.Parts.{with_block}
use Rattle.spec_reconstruction.specs.Residuals.{built4, built8}
use Rattle.spec_reconstruction.specs.Luma.{x8, y8, part16}
use Rattle.spec_reconstruction.specs.Chroma.{chroma_over}
use Rattle.spec_reconstruction.specs.InOrder.{built_in_order}
use Rattle.spec_reconstruction.specs.Inter.{Sources, inter4, inter8, inter_luma_built, inter_built}

module _ (wide : ℕ) (site : Site) (prediction : List ℕ) (b : ℕ) (levels : List ℤ) (plane new : List ℕ) where
  pub inter4_is : (column row : ℕ) (block : List ℤ) (part samples : List ℕ) → column ≡ block_column b → row ≡ block_row b → block ≡ levels → part ≡ part16 prediction b
      → samples ≡ built4 site.qp block part → new ≡ with_block wide (site.x + 4 * column) (site.y + 4 * row) 4 samples plane → new ≡ inter4 wide site prediction b levels plane
  unfolding inter4
  inter4_is column row block part samples e f l g s w =
      w ∙ ap (λ (q : List ℕ). with_block wide (site.x + 4 * column) (site.y + 4 * row) 4 q plane) (s ∙ ap₂ (λ (m : List ℤ) (q : List ℕ). built4 site.qp m q) l g)
      ∙ ap₂ (λ (c r : ℕ). with_block wide (site.x + 4 * c) (site.y + 4 * r) 4 (built4 site.qp levels (part16 prediction b)) plane) e f

  pub inter8_is : (block : List ℤ) (part samples : List ℕ) → block ≡ levels → part ≡ part8 prediction b
      → samples ≡ built8 site.qp block part → new ≡ with_block wide (x8 site b) (y8 site b) 8 samples plane → new ≡ inter8 wide site prediction b levels plane
  unfolding inter8
  inter8_is block part samples l g s w =
      w ∙ ap (λ (q : List ℕ). with_block wide (x8 site b) (y8 site b) 8 q plane) (s ∙ ap₂ (λ (m : List ℤ) (q : List ℕ). built8 site.qp m q) l g)

abbrev pub three : List ℕ → List ℕ → List ℕ → Planes
three l b r = record { luma = l; cb = b; cr = r }

-- the planes with a macroblock, from what was predicted of each component
module _ (wide : ℕ) (s : Sources) (site : Site) (mb : MbRecord) (planes prediction : Planes) where
  luma_is : (p : Planes) → p ≡ predicted_planes wide s site mb → (if mb.transform8 then built_in_order (inter8 wide site p.luma) 64 mb.luma 4 planes.luma else built_in_order (inter4 wide site p.luma) 16 mb.luma 16 planes.luma) ≡ inter_luma_built wide s site mb planes.luma
  unfolding inter_luma_built
  luma_is p e = ap (λ (q : Planes). if mb.transform8 then built_in_order (inter8 wide site q.luma) 64 mb.luma 4 planes.luma else built_in_order (inter4 wide site q.luma) 16 mb.luma 16 planes.luma) e

  pub inter_is : (y cb cr : List ℕ) → prediction ≡ predicted_planes wide s site mb
      → y ≡ (if mb.transform8 then built_in_order (inter8 wide site prediction.luma) 64 mb.luma 4 planes.luma else built_in_order (inter4 wide site prediction.luma) 16 mb.luma 16 planes.luma)
      → cb ≡ chroma_over (wide / 2) site prediction.cb (take 4 mb.chroma_dc) (take 60 mb.chroma_ac) planes.cb
      → cr ≡ chroma_over (wide / 2) site prediction.cr (drop 4 mb.chroma_dc) (drop 60 mb.chroma_ac) planes.cr
      → three y cb cr ≡ inter_built wide s site mb planes
  unfolding inter_built
  inter_is y cb cr e l b r =
      ap (λ (a : List ℕ). three a cb cr) (l ∙ luma_is prediction e)
      ∙ ap₂ (λ (b r : List ℕ). three (inter_luma_built wide s site mb planes.luma) b r)
      (b ∙ ap (λ (q : Planes). chroma_over (wide / 2) site q.cb (take 4 mb.chroma_dc) (take 60 mb.chroma_ac) planes.cb) e)
      (r ∙ ap (λ (q : Planes). chroma_over (wide / 2) site q.cr (drop 4 mb.chroma_dc) (drop 60 mb.chroma_ac) planes.cr) e)

-- a chroma component by the width of its own plane, and by the levels that were taken from the record
pub over_is : (site : Site) (v w : ℕ) (p q x : List ℕ) (d a D A : List ℤ) → v + v ≡ w → d ≡ D → a ≡ A → x ≡ chroma_over v site p d a q → x ≡ chroma_over (w / 2) site p D A q
over_is site v w p q x d a D A e f g h =
    let half : v ≡ w / 2 = omega (arith, e) in
    h ∙ ap (λ (n : ℕ). chroma_over n site p d a q) half ∙ ap₂ (λ (m n : List ℤ). chroma_over (w / 2) site p m n q) f g
