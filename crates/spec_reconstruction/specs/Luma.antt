-- The luma samples of intra macroblocks (ITU-T H.264, clauses 8.3.1 to 8.3.3 and 8.5.1 to 8.5.3), and the levels that the
-- encoder gives them. `wide` is the plane's width.
use Rattle.std.specs.Prelude.{ℕ, ℤ, pos, true, List, replicate, slice_index, slice_set, ◌+◌, ◌*◌, ◌/◌, ◌%◌}
use Rattle.enc_tables.specs.declared.transform.TheConstants.{ZIGZAG4}
use Rattle.enc_tables.specs.Steps.{steps}
use Rattle.spec_residual.specs.declared.BlockKind.TheVariants.{Luma4, LumaDc}
use Rattle.spec_residual.specs.Blocks.{item}
use Rattle.spec_residual.specs.Forward.{luma_dc_of}
use Rattle.spec_residual.specs.Levels.{levels4_of}
use Rattle.spec_residual.specs.Rescaled.{luma_dc_rescaled}
use Rattle.spec_basics.specs.Blocks.{block_column, block_row}
use Rattle.spec_intra.specs.Near.{block_avail, plane_sample, neighbours4, neighbours8, neighbours16}
use Rattle.spec_intra.specs.Predictions.{predicted4, predicted8, predicted16}
use Rattle.spec_reconstruction.specs.declared.Site.{Site}
use Rattle.spec_reconstruction.specs.Parts.{block_at, with_block}
use Rattle.spec_reconstruction.specs.Residuals.{built4, built8, built_with_dc, spectrum4, luma_levels4, luma_levels8, levels_without_dc}
use Rattle.spec_reconstruction.specs.InOrder.{joined, built_in_order, levels_in_order}

-- ---- 4x4 blocks

-- where 4x4 block b begins
abbrev pub x4 : Site → ℕ → ℕ
x4 site b = site.x + 4 * block_column b

abbrev pub y4 : Site → ℕ → ℕ
y4 site b = site.y + 4 * block_row b

unfoldable pub prediction4 : ℕ → Site → List ℕ → ℕ → List ℕ → List ℕ
prediction4 wide site modes b plane =
    predicted4 (slice_index modes b)
    (neighbours4 (plane_sample wide plane) (block_avail 4 site.near (block_column b) (block_row b)) (x4 site b) (y4 site b))

-- the plane with 4x4 block b built
unfoldable pub build4 : ℕ → Site → List ℕ → ℕ → List ℤ → List ℕ → List ℕ
build4 wide site modes b levels plane =
    with_block wide (x4 site b) (y4 site b) 4 (built4 site.qp levels (prediction4 wide site modes b plane)) plane

-- the levels that 4x4 block b is given
unfoldable pub choose4 : ℕ → Site → List ℕ → List ℕ → ℕ → List ℕ → List ℤ
choose4 wide site modes source b plane =
    luma_levels4 true site.qp (block_at wide (x4 site b) (y4 site b) 4 source) (prediction4 wide site modes b plane)

-- the plane with the luma samples of an Intra_4x4 macroblock
unfoldable pub luma4_built : ℕ → Site → List ℕ → List ℤ → List ℕ → List ℕ
luma4_built wide site modes levels plane = built_in_order (build4 wide site modes) 16 levels 16 plane

-- the levels of its sixteen blocks, one after another
unfoldable pub luma4_levels : ℕ → Site → List ℕ → List ℕ → List ℕ → List ℤ
luma4_levels wide site modes source plane = levels_in_order (build4 wide site modes) (choose4 wide site modes source) 16 plane

-- ---- 8x8 blocks

-- where 8x8 block b begins
abbrev pub x8 : Site → ℕ → ℕ
x8 site b = site.x + 8 * (b % 2)

abbrev pub y8 : Site → ℕ → ℕ
y8 site b = site.y + 8 * (b / 2)

unfoldable pub prediction8 : ℕ → Site → List ℕ → ℕ → List ℕ → List ℕ
prediction8 wide site modes b plane =
    predicted8 (slice_index modes b)
    (neighbours8 (plane_sample wide plane) (block_avail 2 site.near (b % 2) (b / 2)) (x8 site b) (y8 site b))

-- the plane with 8x8 block b built
unfoldable pub build8 : ℕ → Site → List ℕ → ℕ → List ℤ → List ℕ → List ℕ
build8 wide site modes b levels plane =
    with_block wide (x8 site b) (y8 site b) 8 (built8 site.qp levels (prediction8 wide site modes b plane)) plane

-- the levels that 8x8 block b is given
unfoldable pub choose8 : ℕ → Site → List ℕ → List ℕ → ℕ → List ℕ → List ℤ
choose8 wide site modes source b plane =
    luma_levels8 true site.qp (block_at wide (x8 site b) (y8 site b) 8 source) (prediction8 wide site modes b plane)

-- the plane with the luma samples of an Intra_8x8 macroblock
unfoldable pub luma8_built : ℕ → Site → List ℕ → List ℤ → List ℕ → List ℕ
luma8_built wide site modes levels plane = built_in_order (build8 wide site modes) 64 levels 4 plane

-- the levels of its four blocks, one after another
unfoldable pub luma8_levels : ℕ → Site → List ℕ → List ℕ → List ℕ → List ℤ
luma8_levels wide site modes source plane = levels_in_order (build8 wide site modes) (choose8 wide site modes source) 4 plane

-- ---- the whole macroblock

unfoldable pub prediction16 : ℕ → Site → ℕ → List ℕ → List ℕ
prediction16 wide site mode plane = predicted16 mode (neighbours16 (plane_sample wide plane) site.near site.x site.y)

-- 4x4 block b of a prediction of the whole macroblock
abbrev pub part16 : List ℕ → ℕ → List ℕ
part16 prediction b = block_at 16 (4 * block_column b) (4 * block_row b) 4 prediction

-- the place of 4x4 block b among the macroblock's, row by row
abbrev pub place16 : ℕ → ℕ
place16 b = 4 * block_row b + block_column b

-- levels in zigzag order, row by row (clause 8.5.6)
unfoldable pub unscanned : List ℤ → List ℤ
unscanned levels = steps (λ s c. slice_set c (slice_index ZIGZAG4 s) (item levels s)) 16 (replicate 16 (pos 0))

-- the plane with 4x4 block b built, where `dcs` are the DC coefficients of all blocks, row by row (clause 8.5.2)
unfoldable pub build16 : ℕ → Site → List ℕ → List ℤ → ℕ → List ℤ → List ℕ → List ℕ
build16 wide site prediction dcs b levels plane =
    with_block wide (x4 site b) (y4 site b) 4
    (built_with_dc Luma4 site.qp (item dcs (place16 b)) levels (part16 prediction b)) plane

-- the plane with the luma samples of an Intra_16x16 macroblock, from its DC levels and those of its blocks
unfoldable pub luma16_built : ℕ → Site → ℕ → List ℤ → List ℤ → List ℕ → List ℕ
luma16_built wide site mode dc levels plane =
    built_in_order (build16 wide site (prediction16 wide site mode plane) (luma_dc_rescaled site.qp (unscanned dc))) 16 levels 16 plane

-- the coefficients of 4x4 block b
unfoldable pub spectrum16 : ℕ → Site → List ℕ → List ℕ → ℕ → List ℤ
spectrum16 wide site source prediction b =
    spectrum4 (block_at wide (x4 site b) (y4 site b) 4 source) (part16 prediction b)

-- the first coefficients of all blocks, row by row
unfoldable pub firsts16 : ℕ → Site → List ℕ → List ℕ → List ℤ
firsts16 wide site source prediction =
    steps (λ b c. slice_set c (place16 b) (item (spectrum16 wide site source prediction b) 0)) 16 (replicate 16 (pos 0))

-- the DC levels, in zigzag order
unfoldable pub luma16_dc : ℕ → Site → ℕ → List ℕ → List ℕ → List ℤ
luma16_dc wide site mode source plane =
    levels4_of LumaDc true site.qp (luma_dc_of (firsts16 wide site source (prediction16 wide site mode plane)))

-- the levels of the sixteen blocks, one after another; the first of each is 0
unfoldable pub luma16_levels : ℕ → Site → ℕ → List ℕ → List ℕ → List ℤ
luma16_levels wide site mode source plane =
    joined (λ b. levels_without_dc Luma4 true site.qp (spectrum16 wide site source (prediction16 wide site mode plane) b)) 16
