-- Worked rows of blocks and macroblocks.
use Rattle.std.proofs.Common.{◌≡◌, ◌∷◌, [], pos, negsuc, replicate, true, map, set, refl}
use Rattle.std.specs.List.{range_with_len}
use Rattle.enc_tables.specs.Steps.{steps}
use Rattle.spec_residual.specs.declared.BlockKind.TheVariants.{Luma4, LumaDc}
use Rattle.spec_residual.specs.Blocks.{listed}
use Rattle.spec_residual.specs.Inverse.{inverse4_of}
use Rattle.spec_residual.specs.Levels.{multiplier, level_of, shift, rounding}
use Rattle.spec_residual.specs.Rescaled.{scaling, rescaled, luma_dc_rescaled}
use Rattle.spec_reconstruction.specs.Parts.{block_rows, with_rows, block_at, with_block}
use Rattle.spec_reconstruction.specs.Residuals.{constructed, coefficients4, built4, built_with_dc}
use Rattle.spec_reconstruction.specs.Luma.{unscanned, place16}
use Rattle.spec_reconstruction.specs.Records.{luma_pattern, chroma_pattern}

-- a block of two by two samples, read from and written into a plane three samples wide
row_read : block_at 3 1 1 2 (1 ∷ 2 ∷ 3 ∷ 4 ∷ 5 ∷ 6 ∷ 7 ∷ 8 ∷ 9 ∷ []) ≡ 5 ∷ 6 ∷ 8 ∷ 9 ∷ []
unfolding block_rows
row_read = refl

row_written : with_block 3 0 1 2 (11 ∷ 12 ∷ 13 ∷ 14 ∷ []) (1 ∷ 2 ∷ 3 ∷ 4 ∷ 5 ∷ 6 ∷ 7 ∷ 8 ∷ 9 ∷ []) ≡ 1 ∷ 2 ∷ 3 ∷ 11 ∷ 12 ∷ 6 ∷ 13 ∷ 14 ∷ 9 ∷ []
unfolding with_rows
row_written = refl

-- a block without levels is its prediction, and the sum of prediction and residual is clipped
row_no_levels : built4 26 (replicate 16 (pos 0)) (replicate 16 77) ≡ replicate 16 77
unfolding built4 constructed coefficients4 steps rescaled scaling inverse4_of listed
row_no_levels = refl

row_dc : built_with_dc Luma4 26 (negsuc 1767) (replicate 16 (pos 0)) (replicate 16 128) ≡ replicate 16 100
unfolding built_with_dc constructed coefficients4 steps rescaled scaling inverse4_of listed
row_dc = refl

row_clipped : built_with_dc Luma4 26 (negsuc 1767) (replicate 16 (pos 0)) (replicate 16 20) ≡ replicate 16 0
unfolding built_with_dc constructed coefficients4 steps rescaled scaling inverse4_of listed
row_clipped = refl

-- the DC level of a flat macroblock 28 below its prediction, at QP 26, and the DC coefficients that it stands for
row_dc_level : level_of LumaDc true 26 0 (negsuc 3583) ≡ negsuc 33
unfolding level_of multiplier rounding shift
row_dc_level = refl

row_dc_rescaled : luma_dc_rescaled 26 (unscanned (negsuc 33 ∷ replicate 15 (pos 0))) ≡ replicate 16 (negsuc 1767)
unfolding luma_dc_rescaled unscanned steps rescaled scaling listed
row_dc_rescaled = refl

-- the places of the sixteen blocks, row by row
row_places : map place16 (range_with_len 0 16) ≡ 0 ∷ 1 ∷ 4 ∷ 5 ∷ 2 ∷ 3 ∷ 6 ∷ 7 ∷ 8 ∷ 9 ∷ 12 ∷ 13 ∷ 10 ∷ 11 ∷ 14 ∷ 15 ∷ []
row_places = refl

-- a level in the third 8x8 block
row_pattern : luma_pattern (set (replicate 256 (pos 0)) 130 (pos 1)) ≡ 4
unfolding luma_pattern
row_pattern = refl

row_chroma_pattern : chroma_pattern (replicate 8 (pos 1)) (replicate 120 (pos 0)) ≡ 1
unfolding chroma_pattern
row_chroma_pattern = refl
