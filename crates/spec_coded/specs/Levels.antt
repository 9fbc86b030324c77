-- The levels that the encoder gives an inter macroblock over its prediction. `prediction` has the macroblock's own samples in three
-- components, and `wide` is the width of a plane.
use Rattle.std.specs.Prelude.{ℕ, ℤ, Bool, false, not, ◌&&◌, nat_le, ◌==◌, if◌then◌else◌, List, ◌++◌, ◌*◌, ◌/◌, ◌%◌}
use Rattle.enc_tables.specs.declared.records.MbRecord.{MbRecord}
use Rattle.spec_film.specs.Films.{Planes}
use Rattle.spec_residual.specs.Blocks.{nonzero_levels}
use Rattle.spec_reconstruction.specs.declared.Site.{Site}
use Rattle.spec_reconstruction.specs.Parts.{block_at}
use Rattle.spec_reconstruction.specs.Residuals.{luma_levels4, luma_levels8}
use Rattle.spec_reconstruction.specs.InOrder.{joined}
use Rattle.spec_reconstruction.specs.Luma.{x4, y4, x8, y8, part16}
use Rattle.spec_reconstruction.specs.Chroma.{chroma_dc_levels, chroma_ac_levels}
use Rattle.spec_reconstruction.specs.Inter.{Sources, luma_predicted, chroma_predicted}
use Rattle.spec_reconstruction.specs.Records.{luma_pattern, chroma_pattern}

-- 8x8 block k of a luma prediction
abbrev pub part8 : List ℕ → ℕ → List ℕ
part8 prediction k = block_at 16 (8 * (k % 2)) (8 * (k / 2)) 8 prediction

-- the levels of a luma prediction by both transforms, in the order of their blocks
unfoldable pub whole_levels4 : ℕ → Site → List ℕ → List ℕ → List ℤ
whole_levels4 wide site source prediction = joined (λ b. luma_levels4 false site.qp (block_at wide (x4 site b) (y4 site b) 4 source) (part16 prediction b)) 16

unfoldable pub whole_levels8 : ℕ → Site → List ℕ → List ℕ → List ℤ
whole_levels8 wide site source prediction = joined (λ k. luma_levels8 false site.qp (block_at wide (x8 site k) (y8 site k) 8 source) (part8 prediction k)) 4

-- the levels of the 8x8 transform are taken where they may be, and where no more of them aren't 0 than of the 4x4 transform
abbrev pub takes_8x8 : Bool → List ℤ → List ℤ → Bool
takes_8x8 t8x8 levels4 levels8 = t8x8 && nat_le (nonzero_levels levels8) (nonzero_levels levels4)

-- a macroblock with these levels
unfoldable pub with_levels : Bool → List ℤ → List ℤ → List ℤ → MbRecord → MbRecord
with_levels transform8 luma dc ac mb = record mb {
  transform8 = transform8;
  luma_cbp = luma_pattern luma;
  chroma_cbp = chroma_pattern dc ac;
  luma = luma;
  chroma_dc = dc;
  chroma_ac = ac;
}

-- a macroblock with the levels of the source over a prediction. Without any luma level there is no transform flag
unfoldable pub levelled : ℕ → Site → Bool → Planes → Planes → MbRecord → MbRecord
levelled wide site t8x8 source prediction mb =
    let levels4 = whole_levels4 wide site source.luma prediction.luma in
    let levels8 = whole_levels8 wide site source.luma prediction.luma in
    let eight = takes_8x8 t8x8 levels4 levels8 in
    with_levels (eight && not (nonzero_levels levels8 == 0)) (if eight then levels8 else levels4)
    (chroma_dc_levels false (wide / 2) site source.cb prediction.cb ++ chroma_dc_levels false (wide / 2) site source.cr prediction.cr)
    (chroma_ac_levels false (wide / 2) site source.cb prediction.cb ++ chroma_ac_levels false (wide / 2) site source.cr prediction.cr) mb

-- what a macroblock's motion predicts
abbrev pub predicted_planes : ℕ → Sources → Site → MbRecord → Planes
predicted_planes wide s site mb = record {
  luma = luma_predicted wide s site mb;
  cb = chroma_predicted (λ p. p.cb) wide s site mb;
  cr = chroma_predicted (λ p. p.cr) wide s site mb;
}

-- whether it has no level
abbrev pub is_blank : MbRecord → Bool
is_blank mb = (mb.luma_cbp == 0) && (mb.chroma_cbp == 0)
