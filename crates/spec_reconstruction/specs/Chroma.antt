-- The samples of a chroma component (ITU-T H.264, clauses 8.3.4, 8.5.4, 8.5.8 and 8.5.11), and the
-- levels that the encoder gives them. `wide` is the width of the component's plane.
use Rattle.std.specs.Prelude.{ℕ, ℤ, pos, Bool, true, List, ◌∷◌, drop, slice_index, ◌+◌, ◌*◌, ◌/◌, ◌%◌}
use Rattle.enc_tables.specs.declared.transform.TheConstants.{CHROMA_QP}
use Rattle.spec_residual.specs.declared.BlockKind.TheVariants.{Chroma4}
use Rattle.spec_residual.specs.Blocks.{item, listed}
use Rattle.spec_residual.specs.Forward.{chroma_dc_of}
use Rattle.spec_residual.specs.Levels.{chroma_dc_levels_of}
use Rattle.spec_residual.specs.Rescaled.{chroma_dc_rescaled}
use Rattle.spec_intra.specs.Near.{plane_sample, neighbours_chroma}
use Rattle.spec_intra.specs.Predictions.{predicted_chroma}
use Rattle.spec_reconstruction.specs.declared.Site.{Site}
use Rattle.spec_reconstruction.specs.Parts.{block_at, with_block}
use Rattle.spec_reconstruction.specs.Residuals.{built_with_dc, spectrum4, levels_without_dc}
use Rattle.spec_reconstruction.specs.InOrder.{joined, built_in_order}

-- the quantisation parameter of the chroma components (clause 8.5.8)
abbrev pub chroma_qp : ℕ → ℕ
chroma_qp qp = slice_index CHROMA_QP qp

-- where 4x4 block b of the component begins
abbrev pub xc : Site → ℕ → ℕ
xc site b = site.x / 2 + 4 * (b % 2)

abbrev pub yc : Site → ℕ → ℕ
yc site b = site.y / 2 + 4 * (b / 2)

unfoldable pub prediction_chroma : ℕ → Site → ℕ → List ℕ → List ℕ
prediction_chroma wide site mode plane =
    predicted_chroma mode (neighbours_chroma (plane_sample wide plane) site.near (site.x / 2) (site.y / 2))

-- 4x4 block b of the prediction
abbrev pub part_chroma : List ℕ → ℕ → List ℕ
part_chroma prediction b = block_at 8 (4 * (b % 2)) (4 * (b / 2)) 4 prediction

-- the plane with 4x4 block b built from its fifteen AC levels, where `dcs` are the DC coefficients of the four blocks
unfoldable pub build_chroma : ℕ → Site → List ℕ → List ℤ → ℕ → List ℤ → List ℕ → List ℕ
build_chroma wide site prediction dcs b levels plane =
    with_block wide (xc site b) (yc site b) 4
    (built_with_dc Chroma4 (chroma_qp site.qp) (item dcs b) (pos 0 ∷ levels) (part_chroma prediction b)) plane

-- the component's plane with the samples of a macroblock over a prediction, from its four DC levels and its AC levels
unfoldable pub chroma_over : ℕ → Site → List ℕ → List ℤ → List ℤ → List ℕ → List ℕ
chroma_over wide site prediction dc ac plane =
    built_in_order (build_chroma wide site prediction (chroma_dc_rescaled (chroma_qp site.qp) dc)) 15 ac 4 plane

-- and of an intra macroblock
unfoldable pub chroma_built : ℕ → Site → ℕ → List ℤ → List ℤ → List ℕ → List ℕ
chroma_built wide site mode dc ac plane = chroma_over wide site (prediction_chroma wide site mode plane) dc ac plane

-- the coefficients of 4x4 block b
unfoldable pub spectrum_chroma : ℕ → Site → List ℕ → List ℕ → ℕ → List ℤ
spectrum_chroma wide site source prediction b =
    spectrum4 (block_at wide (xc site b) (yc site b) 4 source) (part_chroma prediction b)

-- the DC levels of a macroblock over a prediction, and the AC levels of the four blocks, one after another; the quantiser rounds
-- as for intra macroblocks or as for inter macroblocks
unfoldable pub chroma_dc_levels : Bool → ℕ → Site → List ℕ → List ℕ → List ℤ
chroma_dc_levels intra wide site source prediction =
    chroma_dc_levels_of intra (chroma_qp site.qp) (chroma_dc_of (listed 4 (λ b. item (spectrum_chroma wide site source prediction b) 0)))

unfoldable pub chroma_ac_levels : Bool → ℕ → Site → List ℕ → List ℕ → List ℤ
chroma_ac_levels intra wide site source prediction =
    joined (λ b. drop 1 (levels_without_dc Chroma4 intra (chroma_qp site.qp) (spectrum_chroma wide site source prediction b))) 4

-- and those of an intra macroblock
unfoldable pub chroma_dc : ℕ → Site → ℕ → List ℕ → List ℕ → List ℤ
chroma_dc wide site mode source plane = chroma_dc_levels true wide site source (prediction_chroma wide site mode plane)

unfoldable pub chroma_ac : ℕ → Site → ℕ → List ℕ → List ℕ → List ℤ
chroma_ac wide site mode source plane = chroma_ac_levels true wide site source (prediction_chroma wide site mode plane)
