-- Macroblocks of P and B slices of pictures of 4 by 3 macroblocks, as another encoder wrote them: their motion and their bins.
use Rattle.std.proofs.Common.{◌≡◌, true, false, ℤ, pos, negsuc, [], ◌∷◌, ◌++◌, Some, refl, replicate}
use Rattle.enc_tables.specs.declared.records.MbKind.{MbKind}
use Rattle.enc_tables.specs.declared.records.MbRecord.{MbRecord}
use Rattle.enc_tables.specs.declared.records.Motion.{Motion}
use Rattle.enc_tables.specs.declared.records.Vector.{Vector}
use Rattle.enc_tables.specs.declared.records.SliceKind.{SliceKind}
use Rattle.enc_tables.specs.Records.{blank_record}
use Rattle.spec_contexts.specs.Near.{left_block4, above_block4}
use Rattle.spec_contexts.specs.Increments.{inc_skip, inc_type_i, inc_type_b, inc_ref, inc_mvd, inc_transform, inc_chroma_mode, inc_luma_cbp, inc_chroma_cbp, inc_coded}
use Rattle.spec_syntax.specs.Syntax.{at, flag_string}
use Rattle.spec_syntax.specs.Elements.{intra_type_string, mode_rem_string, chroma_mode_string, luma_pattern_string, chroma_pattern_string, qp_delta_string}
use Rattle.spec_syntax.specs.Numbers.{ones_string, number_string, golomb_string, prefix_string}
use Rattle.spec_syntax.specs.Levels.{coded_at, significant_at, last_at, first_at, others_at, minus1_string}
use Rattle.spec_syntax.specs.Blocks.{block_string, some_levels_string, significance_string, levels_string, level_string, none, above_one, equal_one}
use Rattle.spec_syntax.specs.Inter.{p_type_string, b_type_string, sub_type_string, ref_index_string, mvd_string}
use Rattle.spec_partitions.specs.Near.{near_in, view_in, last_qp, last_has_delta}
use Rattle.spec_partitions.specs.Partitions.{by_part, written_of}
use Rattle.spec_partitions.specs.Derived.{motion_by, motion_from, vectors, vector_after, skip_motion, direct_motion}
use Rattle.spec_macroblock.specs.Modes.{predicted4, predicted8, mode_string}
use Rattle.spec_partitions.specs.Parts.{parts_string}
use Rattle.spec_partitions.specs.Inter.{sub_types_string, references_string, differences_string, inter_string}
use Rattle.spec_macroblock.specs.Strings.{macroblock_string, head_string, inter_transform_string, mb_type_string, transform_string, modes_string, intra_chroma_string, luma_cbp_string, chroma_cbp_string, qp_string, luma_dc_string, luma_string, chroma_dc_string, chroma_ac_string}

abbrev to_place : ℤ → ℤ → Vector
to_place x y = record { x = x; y = y }

-- a reference and a vector of list 0, and of list 1
abbrev block : ℤ → ℤ → ℤ → ℤ → ℤ → ℤ → Motion
block r x y s u v = record { refs = r ∷ s ∷ []; vectors = to_place x y ∷ to_place u v ∷ [] }

words : MbKind
unfolding near_in last_qp last_has_delta by_part motion_from vectors vector_after skip_motion direct_motion predicted4 predicted8 mode_string mode_rem_string macroblock_string head_string inter_transform_string mb_type_string transform_string modes_string intra_chroma_string luma_cbp_string chroma_cbp_string qp_string luma_dc_string luma_string chroma_dc_string chroma_ac_string parts_string
    sub_types_string references_string differences_string inter_string p_type_string b_type_string sub_type_string ref_index_string mvd_string
    blank_record left_block4 above_block4 inc_skip inc_type_i inc_type_b inc_ref inc_mvd inc_transform inc_chroma_mode inc_luma_cbp inc_chroma_cbp inc_coded
    flag_string intra_type_string chroma_mode_string luma_pattern_string chroma_pattern_string qp_delta_string block_string some_levels_string coded_at none
    significance_string significant_at last_at levels_string level_string above_one equal_one minus1_string first_at others_at ones_string number_string golomb_string prefix_string
words = MbKind.Pcm

-- ---- a P slice of one reference: P16, Intra4, P8x16, PSkip, P16x8, and P8x8 of 8x8 transforms

abbrev p4 : MbRecord
p4 = record (blank_record MbKind.P16 40) { motion = (block (pos 0) (pos 16) (pos 10) (negsuc 0) (pos 0) (pos 0)) ∷ (block (pos 0) (pos 16) (pos 10) (negsuc 0) (pos 0) (pos 0)) ∷ (block (pos 0) (pos 16) (pos 10) (negsuc 0) (pos 0) (pos 0)) ∷ (block (pos 0) (pos 16) (pos 10) (negsuc 0) (pos 0) (pos 0)) ∷ []; mvd = to_place (pos 16) (pos 10) ∷ to_place (pos 16) (pos 10) ∷ to_place (pos 16) (pos 10) ∷ to_place (pos 16) (pos 10) ∷ to_place (pos 0) (pos 0) ∷ to_place (pos 0) (pos 0) ∷ to_place (pos 0) (pos 0) ∷ to_place (pos 0) (pos 0) ∷ []; chroma_mode = 0; luma_cbp = 0; chroma_cbp = 0 }

abbrev p5 : MbRecord
p5 = record (blank_record MbKind.Intra4 40) { modes = 1 ∷ 8 ∷ 6 ∷ 0 ∷ 1 ∷ 2 ∷ 5 ∷ 0 ∷ 8 ∷ 3 ∷ 8 ∷ 6 ∷ 7 ∷ 0 ∷ 1 ∷ 4 ∷ []; chroma_mode = 1; luma_cbp = 15; chroma_cbp = 1; luma = ((negsuc 1 ∷ []) ++ replicate 15 (pos 0) ++ (pos 1 ∷ []) ++ replicate 1 (pos 0) ++ (pos 1 ∷ []) ++ replicate 47 (pos 0) ++ (negsuc 0 ∷ []) ++ replicate 13 (pos 0) ++ (pos 2 ∷ []) ++ replicate 32 (pos 0) ++ (negsuc 0 ∷ []) ++ replicate 30 (pos 0) ++ (pos 1 ∷ []) ++ replicate 15 (pos 0) ++ (pos 1 ∷ []) ++ replicate 16 (pos 0) ++ (negsuc 0 ∷ negsuc 0 ∷ []) ++ replicate 1 (pos 0) ++ (negsuc 0 ∷ []) ++ replicate 4 (pos 0) ++ (pos 1 ∷ []) ++ replicate 6 (pos 0) ++ (pos 1 ∷ []) ++ replicate 31 (pos 0) ++ (negsuc 0 ∷ []) ++ replicate 31 (pos 0)); chroma_dc = ((negsuc 0 ∷ []) ++ replicate 3 (pos 0) ++ (negsuc 0 ∷ []) ++ replicate 3 (pos 0)) }

abbrev p6 : MbRecord
p6 = record (blank_record MbKind.P8x16 40) { motion = (block (pos 0) (pos 6) (negsuc 0) (negsuc 0) (pos 0) (pos 0)) ∷ (block (pos 0) (negsuc 1) (negsuc 0) (negsuc 0) (pos 0) (pos 0)) ∷ (block (pos 0) (pos 6) (negsuc 0) (negsuc 0) (pos 0) (pos 0)) ∷ (block (pos 0) (negsuc 1) (negsuc 0) (negsuc 0) (pos 0) (pos 0)) ∷ []; mvd = to_place (pos 6) (negsuc 0) ∷ to_place (negsuc 7) (pos 0) ∷ to_place (pos 6) (negsuc 0) ∷ to_place (negsuc 7) (pos 0) ∷ to_place (pos 0) (pos 0) ∷ to_place (pos 0) (pos 0) ∷ to_place (pos 0) (pos 0) ∷ to_place (pos 0) (pos 0) ∷ []; chroma_mode = 0; luma_cbp = 5; chroma_cbp = 0; luma = ((pos 1 ∷ negsuc 0 ∷ []) ++ replicate 30 (pos 0) ++ (pos 2 ∷ []) ++ replicate 95 (pos 0) ++ (pos 1 ∷ []) ++ replicate 33 (pos 0) ++ (pos 1 ∷ []) ++ replicate 93 (pos 0)) }

abbrev p7 : MbRecord
p7 = record (blank_record MbKind.PSkip 40) { motion = (block (pos 0) (pos 0) (pos 0) (negsuc 0) (pos 0) (pos 0)) ∷ (block (pos 0) (pos 0) (pos 0) (negsuc 0) (pos 0) (pos 0)) ∷ (block (pos 0) (pos 0) (pos 0) (negsuc 0) (pos 0) (pos 0)) ∷ (block (pos 0) (pos 0) (pos 0) (negsuc 0) (pos 0) (pos 0)) ∷ []; chroma_mode = 0; luma_cbp = 0; chroma_cbp = 0 }

abbrev p8 : MbRecord
p8 = record (blank_record MbKind.P16x8 40) { motion = (block (pos 0) (pos 15) (pos 8) (negsuc 0) (pos 0) (pos 0)) ∷ (block (pos 0) (pos 15) (pos 8) (negsuc 0) (pos 0) (pos 0)) ∷ (block (pos 0) (pos 17) (pos 8) (negsuc 0) (pos 0) (pos 0)) ∷ (block (pos 0) (pos 17) (pos 8) (negsuc 0) (pos 0) (pos 0)) ∷ []; mvd = to_place (negsuc 0) (negsuc 1) ∷ to_place (negsuc 0) (negsuc 1) ∷ to_place (pos 2) (pos 0) ∷ to_place (pos 2) (pos 0) ∷ to_place (pos 0) (pos 0) ∷ to_place (pos 0) (pos 0) ∷ to_place (pos 0) (pos 0) ∷ to_place (pos 0) (pos 0) ∷ []; chroma_mode = 0; luma_cbp = 0; chroma_cbp = 0 }

abbrev p9 : MbRecord
p9 = record (blank_record MbKind.P8x16 40) { motion = (block (pos 0) (pos 19) (pos 9) (negsuc 0) (pos 0) (pos 0)) ∷ (block (pos 0) (negsuc 59) (negsuc 52) (negsuc 0) (pos 0) (pos 0)) ∷ (block (pos 0) (pos 19) (pos 9) (negsuc 0) (pos 0) (pos 0)) ∷ (block (pos 0) (negsuc 59) (negsuc 52) (negsuc 0) (pos 0) (pos 0)) ∷ []; mvd = to_place (pos 4) (pos 1) ∷ to_place (negsuc 65) (negsuc 51) ∷ to_place (pos 4) (pos 1) ∷ to_place (negsuc 65) (negsuc 51) ∷ to_place (pos 0) (pos 0) ∷ to_place (pos 0) (pos 0) ∷ to_place (pos 0) (pos 0) ∷ to_place (pos 0) (pos 0) ∷ []; chroma_mode = 0; luma_cbp = 0; chroma_cbp = 0 }

abbrev p10 : MbRecord
p10 = record (blank_record MbKind.P8x8 40) { motion = (block (pos 0) (pos 64) (negsuc 43) (negsuc 0) (pos 0) (pos 0)) ∷ (block (pos 0) (negsuc 0) (pos 2) (negsuc 0) (pos 0) (pos 0)) ∷ (block (pos 0) (negsuc 62) (negsuc 27) (negsuc 0) (pos 0) (pos 0)) ∷ (block (pos 0) (negsuc 1) (pos 0) (negsuc 0) (pos 0) (pos 0)) ∷ []; mvd = to_place (pos 66) (negsuc 42) ∷ to_place (negsuc 0) (pos 3) ∷ to_place (negsuc 61) (pos 16) ∷ to_place (negsuc 0) (pos 28) ∷ to_place (pos 0) (pos 0) ∷ to_place (pos 0) (pos 0) ∷ to_place (pos 0) (pos 0) ∷ to_place (pos 0) (pos 0) ∷ []; transform8 = true; chroma_mode = 0; luma_cbp = 1; chroma_cbp = 0; luma = (replicate 2 (pos 0) ++ (negsuc 0 ∷ []) ++ replicate 3 (pos 0) ++ (pos 1 ∷ []) ++ replicate 249 (pos 0)) }

p4_moves : motion_by (view_in (record { kind = SliceKind.P; width = 4; first = 4; qp = 40; t8x8 = true; refs0 = 1; refs1 = 0 }) (λ n. []) ([])) MbKind.P16 (written_of p4) ≡ p4.motion
unfolding words
p4_moves = refl

p4_bins : macroblock_string (near_in (record { kind = SliceKind.P; width = 4; first = 4; qp = 40; t8x8 = true; refs0 = 1; refs1 = 0 }) ([])) p4 ≡ at 11 false ∷ at 14 false ∷ at 15 false ∷ at 16 false ∷ at 40 true ∷ at 43 true ∷ at 44 true ∷ at 45 true ∷ at 46 true ∷ at 46 true ∷ at 46 true ∷ at 46 true ∷ at 46 true ∷ at 1000 false ∷ at 1000 true ∷ at 1000 true ∷ at 1000 true ∷ at 1000 false ∷ at 47 true ∷ at 50 true ∷ at 51 true ∷ at 52 true ∷ at 53 true ∷ at 53 true ∷ at 53 true ∷ at 53 true ∷ at 53 true ∷ at 1000 false ∷ at 1000 false ∷ at 1000 false ∷ at 1000 true ∷ at 1000 false ∷ at 73 false ∷ at 74 false ∷ at 75 false ∷ at 76 false ∷ at 77 false ∷ []
unfolding words
p4_bins = refl

p5_moves : motion_by (view_in (record { kind = SliceKind.P; width = 4; first = 4; qp = 40; t8x8 = true; refs0 = 1; refs1 = 0 }) (λ n. []) (p4 ∷ [])) MbKind.Intra4 (written_of p5) ≡ p5.motion
unfolding words
p5_moves = refl

p5_bins : macroblock_string (near_in (record { kind = SliceKind.P; width = 4; first = 4; qp = 40; t8x8 = true; refs0 = 1; refs1 = 0 }) (p4 ∷ [])) p5 ≡ at 12 false ∷ at 14 true ∷ at 17 false ∷ at 399 false ∷ at 68 false ∷ at 69 true ∷ at 69 false ∷ at 69 false ∷ at 68 false ∷ at 69 true ∷ at 69 true ∷ at 69 true ∷ at 68 false ∷ at 69 true ∷ at 69 false ∷ at 69 true ∷ at 68 false ∷ at 69 false ∷ at 69 false ∷ at 69 false ∷ at 68 false ∷ at 69 true ∷ at 69 false ∷ at 69 false ∷ at 68 true ∷ at 68 false ∷ at 69 false ∷ at 69 false ∷ at 69 true ∷ at 68 false ∷ at 69 false ∷ at 69 false ∷ at 69 false ∷ at 68 false ∷ at 69 true ∷ at 69 true ∷ at 69 true ∷ at 68 false ∷ at 69 false ∷ at 69 true ∷ at 69 false ∷ at 68 false ∷ at 69 true ∷ at 69 true ∷ at 69 true ∷ at 68 false ∷ at 69 true ∷ at 69 false ∷ at 69 true ∷ at 68 false ∷ at 69 false ∷ at 69 true ∷ at 69 true ∷ at 68 true ∷ at 68 false ∷ at 69 true ∷ at 69 false ∷ at 69 false ∷ at 68 false ∷ at 69 true ∷ at 69 true ∷ at 69 false ∷ at 64 true ∷ at 67 false ∷ at 74 true ∷ at 73 true ∷ at 74 true ∷ at 73 true ∷ at 77 true ∷ at 81 false ∷ at 60 false ∷ at 95 true ∷ at 134 true ∷ at 195 true ∷ at 248 true ∷ at 252 false ∷ at 1000 true ∷ at 96 true ∷ at 134 true ∷ at 195 false ∷ at 135 false ∷ at 136 true ∷ at 197 true ∷ at 248 false ∷ at 1000 false ∷ at 249 false ∷ at 1000 false ∷ at 95 false ∷ at 95 false ∷ at 96 true ∷ at 134 false ∷ at 135 false ∷ at 136 true ∷ at 197 true ∷ at 248 false ∷ at 1000 true ∷ at 96 true ∷ at 134 true ∷ at 195 true ∷ at 248 true ∷ at 252 false ∷ at 1000 false ∷ at 95 false ∷ at 95 true ∷ at 134 false ∷ at 135 true ∷ at 196 true ∷ at 248 false ∷ at 1000 true ∷ at 93 false ∷ at 93 true ∷ at 134 true ∷ at 195 true ∷ at 248 false ∷ at 1000 false ∷ at 93 true ∷ at 134 true ∷ at 195 true ∷ at 248 false ∷ at 1000 false ∷ at 96 true ∷ at 134 false ∷ at 135 true ∷ at 196 false ∷ at 136 true ∷ at 197 false ∷ at 137 false ∷ at 138 true ∷ at 199 false ∷ at 139 false ∷ at 140 false ∷ at 141 false ∷ at 142 false ∷ at 143 true ∷ at 204 true ∷ at 248 false ∷ at 1000 false ∷ at 249 false ∷ at 1000 true ∷ at 250 false ∷ at 1000 true ∷ at 251 false ∷ at 1000 true ∷ at 94 true ∷ at 134 true ∷ at 195 true ∷ at 248 false ∷ at 1000 false ∷ at 96 false ∷ at 96 true ∷ at 134 true ∷ at 195 true ∷ at 248 false ∷ at 1000 true ∷ at 94 false ∷ at 99 true ∷ at 149 true ∷ at 210 true ∷ at 258 false ∷ at 1000 true ∷ at 99 true ∷ at 149 true ∷ at 210 true ∷ at 258 false ∷ at 1000 true ∷ []
unfolding words
p5_bins = refl

p6_moves : motion_by (view_in (record { kind = SliceKind.P; width = 4; first = 4; qp = 40; t8x8 = true; refs0 = 1; refs1 = 0 }) (λ n. []) (p4 ∷ p5 ∷ [])) MbKind.P8x16 (written_of p6) ≡ p6.motion
unfolding words
p6_moves = refl

p6_bins : macroblock_string (near_in (record { kind = SliceKind.P; width = 4; first = 4; qp = 40; t8x8 = true; refs0 = 1; refs1 = 0 }) (p4 ∷ p5 ∷ [])) p6 ≡ at 12 false ∷ at 14 false ∷ at 15 true ∷ at 17 false ∷ at 40 true ∷ at 43 true ∷ at 44 true ∷ at 45 true ∷ at 46 true ∷ at 46 true ∷ at 46 false ∷ at 1000 false ∷ at 47 true ∷ at 50 false ∷ at 1000 true ∷ at 41 true ∷ at 43 true ∷ at 44 true ∷ at 45 true ∷ at 46 true ∷ at 46 true ∷ at 46 true ∷ at 46 true ∷ at 46 false ∷ at 1000 true ∷ at 47 false ∷ at 73 true ∷ at 73 false ∷ at 73 true ∷ at 75 false ∷ at 78 false ∷ at 399 false ∷ at 60 false ∷ at 94 true ∷ at 134 true ∷ at 195 false ∷ at 135 true ∷ at 196 true ∷ at 248 false ∷ at 1000 true ∷ at 249 false ∷ at 1000 false ∷ at 94 false ∷ at 96 true ∷ at 134 true ∷ at 195 true ∷ at 248 true ∷ at 252 false ∷ at 1000 false ∷ at 94 false ∷ at 95 true ∷ at 134 true ∷ at 195 true ∷ at 248 false ∷ at 1000 false ∷ at 94 false ∷ at 95 true ∷ at 134 false ∷ at 135 false ∷ at 136 true ∷ at 197 true ∷ at 248 false ∷ at 1000 false ∷ at 94 false ∷ []
unfolding words
p6_bins = refl

p7_moves : motion_by (view_in (record { kind = SliceKind.P; width = 4; first = 4; qp = 40; t8x8 = true; refs0 = 1; refs1 = 0 }) (λ n. []) (p4 ∷ p5 ∷ p6 ∷ [])) MbKind.PSkip (written_of p7) ≡ p7.motion
unfolding words
p7_moves = refl

p7_bins : macroblock_string (near_in (record { kind = SliceKind.P; width = 4; first = 4; qp = 40; t8x8 = true; refs0 = 1; refs1 = 0 }) (p4 ∷ p5 ∷ p6 ∷ [])) p7 ≡ at 12 true ∷ []
unfolding words
p7_bins = refl

p8_moves : motion_by (view_in (record { kind = SliceKind.P; width = 4; first = 4; qp = 40; t8x8 = true; refs0 = 1; refs1 = 0 }) (λ n. []) (p4 ∷ p5 ∷ p6 ∷ p7 ∷ [])) MbKind.P16x8 (written_of p8) ≡ p8.motion
unfolding words
p8_moves = refl

p8_bins : macroblock_string (near_in (record { kind = SliceKind.P; width = 4; first = 4; qp = 40; t8x8 = true; refs0 = 1; refs1 = 0 }) (p4 ∷ p5 ∷ p6 ∷ p7 ∷ [])) p8 ≡ at 12 false ∷ at 14 false ∷ at 15 true ∷ at 17 true ∷ at 41 true ∷ at 43 false ∷ at 1000 true ∷ at 48 true ∷ at 50 true ∷ at 51 false ∷ at 1000 true ∷ at 40 true ∷ at 43 true ∷ at 44 false ∷ at 1000 false ∷ at 47 false ∷ at 75 false ∷ at 76 false ∷ at 75 false ∷ at 76 false ∷ at 77 false ∷ []
unfolding words
p8_bins = refl

p10_moves : motion_by (view_in (record { kind = SliceKind.P; width = 4; first = 4; qp = 40; t8x8 = true; refs0 = 1; refs1 = 0 }) (λ n. []) (p4 ∷ p5 ∷ p6 ∷ p7 ∷ p8 ∷ p9 ∷ [])) MbKind.P8x8 (written_of p10) ≡ p10.motion
unfolding words
p10_moves = refl

p10_bins : macroblock_string (near_in (record { kind = SliceKind.P; width = 4; first = 4; qp = 40; t8x8 = true; refs0 = 1; refs1 = 0 }) (p4 ∷ p5 ∷ p6 ∷ p7 ∷ p8 ∷ p9 ∷ [])) p10 ≡ at 13 false ∷ at 14 false ∷ at 15 false ∷ at 16 true ∷ at 21 true ∷ at 21 true ∷ at 21 true ∷ at 21 true ∷ at 42 true ∷ at 43 true ∷ at 44 true ∷ at 45 true ∷ at 46 true ∷ at 46 true ∷ at 46 true ∷ at 46 true ∷ at 46 true ∷ at 1000 true ∷ at 1000 true ∷ at 1000 true ∷ at 1000 false ∷ at 1000 false ∷ at 1000 false ∷ at 1000 false ∷ at 1000 false ∷ at 1000 false ∷ at 1000 true ∷ at 1000 false ∷ at 49 true ∷ at 50 true ∷ at 51 true ∷ at 52 true ∷ at 53 true ∷ at 53 true ∷ at 53 true ∷ at 53 true ∷ at 53 true ∷ at 1000 true ∷ at 1000 true ∷ at 1000 false ∷ at 1000 false ∷ at 1000 true ∷ at 1000 false ∷ at 1000 true ∷ at 1000 false ∷ at 1000 true ∷ at 42 true ∷ at 43 false ∷ at 1000 true ∷ at 49 true ∷ at 50 true ∷ at 51 true ∷ at 52 false ∷ at 1000 false ∷ at 42 true ∷ at 43 true ∷ at 44 true ∷ at 45 true ∷ at 46 true ∷ at 46 true ∷ at 46 true ∷ at 46 true ∷ at 46 true ∷ at 1000 true ∷ at 1000 true ∷ at 1000 false ∷ at 1000 true ∷ at 1000 true ∷ at 1000 true ∷ at 1000 false ∷ at 1000 true ∷ at 1000 true ∷ at 49 true ∷ at 50 true ∷ at 51 true ∷ at 52 true ∷ at 53 true ∷ at 53 true ∷ at 53 true ∷ at 53 true ∷ at 53 true ∷ at 1000 false ∷ at 1000 true ∷ at 1000 true ∷ at 1000 true ∷ at 1000 false ∷ at 42 true ∷ at 43 false ∷ at 1000 true ∷ at 48 true ∷ at 50 true ∷ at 51 true ∷ at 52 true ∷ at 53 true ∷ at 53 true ∷ at 53 true ∷ at 53 true ∷ at 53 true ∷ at 1000 true ∷ at 1000 false ∷ at 1000 true ∷ at 1000 false ∷ at 1000 true ∷ at 1000 true ∷ at 1000 false ∷ at 74 true ∷ at 75 false ∷ at 74 false ∷ at 76 false ∷ at 77 false ∷ at 399 true ∷ at 60 false ∷ at 402 false ∷ at 403 false ∷ at 404 true ∷ at 418 false ∷ at 405 false ∷ at 406 false ∷ at 407 false ∷ at 407 true ∷ at 418 true ∷ at 427 false ∷ at 1000 false ∷ at 428 false ∷ at 1000 true ∷ []
unfolding words
p10_bins = refl

-- ---- a P slice of three references: P8x16, also of 8x8 transforms

abbrev q4 : MbRecord
q4 = record (blank_record MbKind.P8x16 40) { motion = (block (pos 0) (pos 9) (pos 4) (negsuc 0) (pos 0) (pos 0)) ∷ (block (pos 1) (negsuc 52) (negsuc 50) (negsuc 0) (pos 0) (pos 0)) ∷ (block (pos 0) (pos 9) (pos 4) (negsuc 0) (pos 0) (pos 0)) ∷ (block (pos 1) (negsuc 52) (negsuc 50) (negsuc 0) (pos 0) (pos 0)) ∷ []; mvd = to_place (pos 9) (pos 4) ∷ to_place (negsuc 61) (negsuc 54) ∷ to_place (pos 9) (pos 4) ∷ to_place (negsuc 61) (negsuc 54) ∷ to_place (pos 0) (pos 0) ∷ to_place (pos 0) (pos 0) ∷ to_place (pos 0) (pos 0) ∷ to_place (pos 0) (pos 0) ∷ []; chroma_mode = 0; luma_cbp = 0; chroma_cbp = 0 }

abbrev q5 : MbRecord
q5 = record (blank_record MbKind.P8x8 40) { motion = (block (pos 1) (negsuc 23) (pos 11) (negsuc 0) (pos 0) (pos 0)) ∷ (block (pos 2) (negsuc 66) (negsuc 44) (negsuc 0) (pos 0) (pos 0)) ∷ (block (pos 1) (negsuc 19) (pos 26) (negsuc 0) (pos 0) (pos 0)) ∷ (block (pos 0) (pos 11) (pos 1) (negsuc 0) (pos 0) (pos 0)) ∷ []; mvd = to_place (pos 29) (pos 62) ∷ to_place (negsuc 42) (negsuc 55) ∷ to_place (pos 33) (pos 71) ∷ to_place (pos 35) (negsuc 9) ∷ to_place (pos 0) (pos 0) ∷ to_place (pos 0) (pos 0) ∷ to_place (pos 0) (pos 0) ∷ to_place (pos 0) (pos 0) ∷ []; transform8 = true; chroma_mode = 0; luma_cbp = 12; chroma_cbp = 1; luma = (replicate 131 (pos 0) ++ (negsuc 0 ∷ []) ++ replicate 2 (pos 0) ++ (pos 1 ∷ []) ++ replicate 1 (pos 0) ++ (pos 1 ∷ []) ++ replicate 56 (pos 0) ++ (pos 1 ∷ []) ++ replicate 62 (pos 0)); chroma_dc = ((negsuc 0 ∷ []) ++ replicate 3 (pos 0) ++ (negsuc 0 ∷ []) ++ replicate 3 (pos 0)) }

abbrev q6 : MbRecord
q6 = record (blank_record MbKind.P8x16 40) { motion = (block (pos 0) (pos 5) (negsuc 0) (negsuc 0) (pos 0) (pos 0)) ∷ (block (pos 1) (pos 0) (pos 0) (negsuc 0) (pos 0) (pos 0)) ∷ (block (pos 0) (pos 5) (negsuc 0) (negsuc 0) (pos 0) (pos 0)) ∷ (block (pos 1) (pos 0) (pos 0) (negsuc 0) (pos 0) (pos 0)) ∷ []; mvd = to_place (pos 72) (pos 44) ∷ to_place (negsuc 4) (pos 1) ∷ to_place (pos 72) (pos 44) ∷ to_place (negsuc 4) (pos 1) ∷ to_place (pos 0) (pos 0) ∷ to_place (pos 0) (pos 0) ∷ to_place (pos 0) (pos 0) ∷ to_place (pos 0) (pos 0) ∷ []; transform8 = true; chroma_mode = 0; luma_cbp = 4; chroma_cbp = 0; luma = (replicate 133 (pos 0) ++ (negsuc 0 ∷ []) ++ replicate 122 (pos 0)) }

q4_moves : motion_by (view_in (record { kind = SliceKind.P; width = 4; first = 4; qp = 40; t8x8 = true; refs0 = 3; refs1 = 0 }) (λ n. []) ([])) MbKind.P8x16 (written_of q4) ≡ q4.motion
unfolding words
q4_moves = refl

q4_bins : macroblock_string (near_in (record { kind = SliceKind.P; width = 4; first = 4; qp = 40; t8x8 = true; refs0 = 3; refs1 = 0 }) ([])) q4 ≡ at 11 false ∷ at 14 false ∷ at 15 true ∷ at 17 false ∷ at 54 false ∷ at 54 true ∷ at 58 false ∷ at 40 true ∷ at 43 true ∷ at 44 true ∷ at 45 true ∷ at 46 true ∷ at 46 true ∷ at 46 true ∷ at 46 true ∷ at 46 true ∷ at 1000 false ∷ at 1000 false ∷ at 1000 false ∷ at 1000 false ∷ at 1000 false ∷ at 47 true ∷ at 50 true ∷ at 51 true ∷ at 52 true ∷ at 53 false ∷ at 1000 false ∷ at 41 true ∷ at 43 true ∷ at 44 true ∷ at 45 true ∷ at 46 true ∷ at 46 true ∷ at 46 true ∷ at 46 true ∷ at 46 true ∷ at 1000 true ∷ at 1000 true ∷ at 1000 false ∷ at 1000 true ∷ at 1000 true ∷ at 1000 true ∷ at 1000 false ∷ at 1000 true ∷ at 1000 true ∷ at 48 true ∷ at 50 true ∷ at 51 true ∷ at 52 true ∷ at 53 true ∷ at 53 true ∷ at 53 true ∷ at 53 true ∷ at 53 true ∷ at 1000 true ∷ at 1000 true ∷ at 1000 false ∷ at 1000 true ∷ at 1000 false ∷ at 1000 true ∷ at 1000 true ∷ at 1000 false ∷ at 1000 true ∷ at 73 false ∷ at 74 false ∷ at 75 false ∷ at 76 false ∷ at 77 false ∷ []
unfolding words
q4_bins = refl

q6_moves : motion_by (view_in (record { kind = SliceKind.P; width = 4; first = 4; qp = 40; t8x8 = true; refs0 = 3; refs1 = 0 }) (λ n. []) (q4 ∷ q5 ∷ [])) MbKind.P8x16 (written_of q6) ≡ q6.motion
unfolding words
q6_moves = refl

q6_bins : macroblock_string (near_in (record { kind = SliceKind.P; width = 4; first = 4; qp = 40; t8x8 = true; refs0 = 3; refs1 = 0 }) (q4 ∷ q5 ∷ [])) q6 ≡ at 12 false ∷ at 14 false ∷ at 15 true ∷ at 17 false ∷ at 55 false ∷ at 54 true ∷ at 58 false ∷ at 42 true ∷ at 43 true ∷ at 44 true ∷ at 45 true ∷ at 46 true ∷ at 46 true ∷ at 46 true ∷ at 46 true ∷ at 46 true ∷ at 1000 true ∷ at 1000 true ∷ at 1000 true ∷ at 1000 false ∷ at 1000 false ∷ at 1000 false ∷ at 1000 false ∷ at 1000 true ∷ at 1000 true ∷ at 1000 true ∷ at 1000 false ∷ at 49 true ∷ at 50 true ∷ at 51 true ∷ at 52 true ∷ at 53 true ∷ at 53 true ∷ at 53 true ∷ at 53 true ∷ at 53 true ∷ at 1000 true ∷ at 1000 true ∷ at 1000 false ∷ at 1000 false ∷ at 1000 true ∷ at 1000 false ∷ at 1000 true ∷ at 1000 true ∷ at 1000 false ∷ at 42 true ∷ at 43 true ∷ at 44 true ∷ at 45 true ∷ at 46 true ∷ at 46 false ∷ at 1000 true ∷ at 49 true ∷ at 50 false ∷ at 1000 false ∷ at 74 false ∷ at 74 false ∷ at 75 true ∷ at 75 false ∷ at 78 false ∷ at 400 true ∷ at 60 false ∷ at 402 false ∷ at 403 false ∷ at 404 false ∷ at 405 false ∷ at 406 false ∷ at 407 true ∷ at 418 true ∷ at 427 false ∷ at 1000 true ∷ []
unfolding words
q6_bins = refl

-- ---- a B slice: BSkip, B8x8 and B16

abbrev b0 : MbRecord
b0 = record (blank_record MbKind.BSkip 42) { motion = (block (pos 0) (pos 0) (pos 0) (pos 0) (pos 0) (pos 0)) ∷ (block (pos 0) (pos 0) (pos 0) (pos 0) (pos 0) (pos 0)) ∷ (block (pos 0) (pos 0) (pos 0) (pos 0) (pos 0) (pos 0)) ∷ (block (pos 0) (pos 0) (pos 0) (pos 0) (pos 0) (pos 0)) ∷ []; chroma_mode = 0; luma_cbp = 0; chroma_cbp = 0 }

abbrev b1 : MbRecord
b1 = record (blank_record MbKind.B8x8 42) { motion = (block (pos 0) (pos 6) (pos 6) (negsuc 0) (pos 0) (pos 0)) ∷ (block (pos 0) (pos 9) (pos 4) (negsuc 0) (pos 0) (pos 0)) ∷ (block (pos 0) (pos 1) (pos 6) (negsuc 0) (pos 0) (pos 0)) ∷ (block (negsuc 0) (pos 0) (pos 0) (pos 0) (negsuc 45) (negsuc 38)) ∷ []; mvd = to_place (pos 6) (pos 6) ∷ to_place (pos 3) (negsuc 1) ∷ to_place (negsuc 4) (pos 2) ∷ to_place (pos 0) (pos 0) ∷ to_place (pos 0) (pos 0) ∷ to_place (pos 0) (pos 0) ∷ to_place (pos 0) (pos 0) ∷ to_place (negsuc 45) (negsuc 38) ∷ []; transform8 = true; chroma_mode = 0; luma_cbp = 8; chroma_cbp = 0; luma = (replicate 195 (pos 0) ++ (negsuc 0 ∷ []) ++ replicate 60 (pos 0)) }

abbrev b2 : MbRecord
b2 = record (blank_record MbKind.B16 42) { motion = (block (pos 0) (pos 1) (pos 1) (pos 0) (pos 1) (negsuc 0)) ∷ (block (pos 0) (pos 1) (pos 1) (pos 0) (pos 1) (negsuc 0)) ∷ (block (pos 0) (pos 1) (pos 1) (pos 0) (pos 1) (negsuc 0)) ∷ (block (pos 0) (pos 1) (pos 1) (pos 0) (pos 1) (negsuc 0)) ∷ []; mvd = to_place (negsuc 7) (negsuc 2) ∷ to_place (negsuc 7) (negsuc 2) ∷ to_place (negsuc 7) (negsuc 2) ∷ to_place (negsuc 7) (negsuc 2) ∷ to_place (pos 1) (negsuc 0) ∷ to_place (pos 1) (negsuc 0) ∷ to_place (pos 1) (negsuc 0) ∷ to_place (pos 1) (negsuc 0) ∷ []; chroma_mode = 0; luma_cbp = 0; chroma_cbp = 0 }

b0_moves : motion_by (view_in (record { kind = SliceKind.B; width = 4; first = 0; qp = 42; t8x8 = true; refs0 = 2; refs1 = 1 }) (λ n. Some (block (pos 0) (pos 14) (pos 7) (negsuc 0) (pos 0) (pos 0)) ∷ Some (block (pos 0) (pos 17) (pos 9) (negsuc 0) (pos 0) (pos 0)) ∷ Some (block (pos 0) (pos 17) (pos 9) (negsuc 0) (pos 0) (pos 0)) ∷ Some (block (pos 2) (negsuc 30) (negsuc 49) (negsuc 0) (pos 0) (pos 0)) ∷ []) ([])) MbKind.BSkip (written_of b0) ≡ b0.motion
unfolding words
b0_moves = refl

b1_moves : motion_by (view_in (record { kind = SliceKind.B; width = 4; first = 0; qp = 42; t8x8 = true; refs0 = 2; refs1 = 1 }) (λ n. Some (block (pos 0) (pos 11) (pos 11) (negsuc 0) (pos 0) (pos 0)) ∷ Some (block (pos 0) (pos 14) (pos 6) (negsuc 0) (pos 0) (pos 0)) ∷ Some (block (pos 1) (pos 7) (pos 19) (negsuc 0) (pos 0) (pos 0)) ∷ Some (block (pos 2) (pos 67) (pos 32) (negsuc 0) (pos 0) (pos 0)) ∷ []) (b0 ∷ [])) MbKind.B8x8 (written_of b1) ≡ b1.motion
unfolding words
b1_moves = refl

b1_bins : macroblock_string (near_in (record { kind = SliceKind.B; width = 4; first = 0; qp = 42; t8x8 = true; refs0 = 2; refs1 = 1 }) (b0 ∷ [])) b1 ≡ at 24 false ∷ at 27 true ∷ at 30 true ∷ at 31 true ∷ at 32 true ∷ at 32 true ∷ at 32 true ∷ at 36 true ∷ at 37 false ∷ at 39 false ∷ at 36 true ∷ at 37 false ∷ at 39 false ∷ at 36 true ∷ at 37 false ∷ at 39 false ∷ at 36 true ∷ at 37 false ∷ at 39 true ∷ at 54 false ∷ at 54 false ∷ at 54 false ∷ at 40 true ∷ at 43 true ∷ at 44 true ∷ at 45 true ∷ at 46 true ∷ at 46 true ∷ at 46 false ∷ at 1000 false ∷ at 47 true ∷ at 50 true ∷ at 51 true ∷ at 52 true ∷ at 53 true ∷ at 53 true ∷ at 53 false ∷ at 1000 false ∷ at 41 true ∷ at 43 true ∷ at 44 true ∷ at 45 false ∷ at 1000 false ∷ at 48 true ∷ at 50 true ∷ at 51 false ∷ at 1000 true ∷ at 41 true ∷ at 43 true ∷ at 44 true ∷ at 45 true ∷ at 46 true ∷ at 46 false ∷ at 1000 true ∷ at 48 true ∷ at 50 true ∷ at 51 false ∷ at 1000 false ∷ at 40 true ∷ at 43 true ∷ at 44 true ∷ at 45 true ∷ at 46 true ∷ at 46 true ∷ at 46 true ∷ at 46 true ∷ at 46 true ∷ at 1000 true ∷ at 1000 true ∷ at 1000 false ∷ at 1000 false ∷ at 1000 true ∷ at 1000 true ∷ at 1000 false ∷ at 1000 true ∷ at 1000 true ∷ at 47 true ∷ at 50 true ∷ at 51 true ∷ at 52 true ∷ at 53 true ∷ at 53 true ∷ at 53 true ∷ at 53 true ∷ at 53 true ∷ at 1000 true ∷ at 1000 true ∷ at 1000 false ∷ at 1000 false ∷ at 1000 false ∷ at 1000 true ∷ at 1000 true ∷ at 1000 false ∷ at 1000 true ∷ at 74 false ∷ at 74 false ∷ at 76 false ∷ at 76 true ∷ at 77 false ∷ at 399 true ∷ at 60 false ∷ at 402 false ∷ at 403 false ∷ at 404 false ∷ at 405 true ∷ at 418 true ∷ at 427 false ∷ at 1000 true ∷ []
unfolding words
b1_bins = refl

b2_moves : motion_by (view_in (record { kind = SliceKind.B; width = 4; first = 0; qp = 42; t8x8 = true; refs0 = 2; refs1 = 1 }) (λ n. Some (block (pos 0) (pos 1) (pos 3) (negsuc 0) (pos 0) (pos 0)) ∷ Some (block (pos 0) (negsuc 0) (pos 0) (negsuc 0) (pos 0) (pos 0)) ∷ Some (block (pos 2) (negsuc 47) (pos 25) (negsuc 0) (pos 0) (pos 0)) ∷ Some (block (pos 2) (negsuc 4) (negsuc 1) (negsuc 0) (pos 0) (pos 0)) ∷ []) (b0 ∷ b1 ∷ [])) MbKind.B16 (written_of b2) ≡ b2.motion
unfolding words
b2_moves = refl

b2_bins : macroblock_string (near_in (record { kind = SliceKind.B; width = 4; first = 0; qp = 42; t8x8 = true; refs0 = 2; refs1 = 1 }) (b0 ∷ b1 ∷ [])) b2 ≡ at 25 false ∷ at 28 true ∷ at 30 true ∷ at 31 false ∷ at 32 false ∷ at 32 false ∷ at 32 false ∷ at 54 false ∷ at 41 true ∷ at 43 true ∷ at 44 true ∷ at 45 true ∷ at 46 true ∷ at 46 true ∷ at 46 true ∷ at 46 true ∷ at 46 false ∷ at 1000 true ∷ at 47 true ∷ at 50 true ∷ at 51 true ∷ at 52 false ∷ at 1000 true ∷ at 40 true ∷ at 43 false ∷ at 1000 false ∷ at 47 true ∷ at 50 false ∷ at 1000 true ∷ at 74 false ∷ at 74 false ∷ at 75 false ∷ at 76 false ∷ at 77 false ∷ []
unfolding words
b2_bins = refl

-- ---- a B slice: Intra4 and BDirect

abbrev d4 : MbRecord
d4 = record (blank_record MbKind.BSkip 42) { motion = (block (pos 0) (pos 0) (pos 0) (pos 0) (pos 0) (pos 0)) ∷ (block (pos 0) (pos 0) (pos 0) (pos 0) (pos 0) (pos 0)) ∷ (block (pos 0) (pos 0) (pos 0) (pos 0) (pos 0) (pos 0)) ∷ (block (pos 0) (pos 0) (pos 0) (pos 0) (pos 0) (pos 0)) ∷ []; chroma_mode = 0; luma_cbp = 0; chroma_cbp = 0 }

abbrev d5 : MbRecord
d5 = record (blank_record MbKind.Intra4 42) { modes = 8 ∷ 8 ∷ 1 ∷ 0 ∷ 8 ∷ 1 ∷ 7 ∷ 4 ∷ 6 ∷ 0 ∷ 0 ∷ 4 ∷ 4 ∷ 3 ∷ 2 ∷ 1 ∷ []; chroma_mode = 1; luma_cbp = 15; chroma_cbp = 0; luma = ((negsuc 0 ∷ []) ++ replicate 15 (pos 0) ++ (pos 1 ∷ []) ++ replicate 31 (pos 0) ++ (negsuc 0 ∷ []) ++ replicate 15 (pos 0) ++ (negsuc 0 ∷ []) ++ replicate 31 (pos 0) ++ (negsuc 0 ∷ []) ++ replicate 31 (pos 0) ++ (pos 1 ∷ []) ++ replicate 48 (pos 0) ++ (negsuc 0 ∷ []) ++ replicate 62 (pos 0) ++ (negsuc 0 ∷ []) ++ replicate 1 (pos 0) ++ (pos 1 ∷ []) ++ replicate 13 (pos 0)) }

abbrev d6 : MbRecord
d6 = record (blank_record MbKind.BDirect 42) { motion = (block (pos 0) (pos 0) (pos 0) (pos 0) (pos 0) (pos 0)) ∷ (block (pos 0) (pos 0) (pos 0) (pos 0) (pos 0) (pos 0)) ∷ (block (pos 0) (pos 0) (pos 0) (pos 0) (pos 0) (pos 0)) ∷ (block (pos 0) (pos 0) (pos 0) (pos 0) (pos 0) (pos 0)) ∷ []; transform8 = true; chroma_mode = 0; luma_cbp = 1; chroma_cbp = 0; luma = (replicate 1 (pos 0) ++ (negsuc 0 ∷ []) ++ replicate 3 (pos 0) ++ (negsuc 0 ∷ []) ++ replicate 250 (pos 0)) }

d5_moves : motion_by (view_in (record { kind = SliceKind.B; width = 4; first = 4; qp = 42; t8x8 = true; refs0 = 2; refs1 = 1 }) (λ n. Some (block (pos 1) (pos 0) (pos 18) (negsuc 0) (pos 0) (pos 0)) ∷ Some (block (pos 2) (negsuc 66) (negsuc 57) (negsuc 0) (pos 0) (pos 0)) ∷ Some (block (pos 0) (pos 9) (pos 18) (negsuc 0) (pos 0) (pos 0)) ∷ Some (block (pos 1) (negsuc 4) (negsuc 65) (negsuc 0) (pos 0) (pos 0)) ∷ []) (d4 ∷ [])) MbKind.Intra4 (written_of d5) ≡ d5.motion
unfolding words
d5_moves = refl

d5_bins : macroblock_string (near_in (record { kind = SliceKind.B; width = 4; first = 4; qp = 42; t8x8 = true; refs0 = 2; refs1 = 1 }) (d4 ∷ [])) d5 ≡ at 24 false ∷ at 27 true ∷ at 30 true ∷ at 31 true ∷ at 32 true ∷ at 32 false ∷ at 32 true ∷ at 32 false ∷ at 399 false ∷ at 68 false ∷ at 69 true ∷ at 69 true ∷ at 69 true ∷ at 68 false ∷ at 69 true ∷ at 69 true ∷ at 69 true ∷ at 68 false ∷ at 69 true ∷ at 69 false ∷ at 69 false ∷ at 68 false ∷ at 69 false ∷ at 69 false ∷ at 69 false ∷ at 68 false ∷ at 69 true ∷ at 69 true ∷ at 69 true ∷ at 68 false ∷ at 69 true ∷ at 69 false ∷ at 69 false ∷ at 68 false ∷ at 69 false ∷ at 69 true ∷ at 69 true ∷ at 68 false ∷ at 69 true ∷ at 69 true ∷ at 69 false ∷ at 68 false ∷ at 69 true ∷ at 69 false ∷ at 69 true ∷ at 68 true ∷ at 68 false ∷ at 69 false ∷ at 69 false ∷ at 69 false ∷ at 68 false ∷ at 69 true ∷ at 69 true ∷ at 69 false ∷ at 68 false ∷ at 69 true ∷ at 69 true ∷ at 69 false ∷ at 68 false ∷ at 69 true ∷ at 69 true ∷ at 69 false ∷ at 68 false ∷ at 69 false ∷ at 69 true ∷ at 69 false ∷ at 68 false ∷ at 69 true ∷ at 69 false ∷ at 69 false ∷ at 64 true ∷ at 67 false ∷ at 74 true ∷ at 73 true ∷ at 74 true ∷ at 73 true ∷ at 77 false ∷ at 60 false ∷ at 95 true ∷ at 134 true ∷ at 195 true ∷ at 248 false ∷ at 1000 true ∷ at 96 true ∷ at 134 true ∷ at 195 true ∷ at 248 false ∷ at 1000 false ∷ at 95 false ∷ at 95 true ∷ at 134 true ∷ at 195 true ∷ at 248 false ∷ at 1000 true ∷ at 96 true ∷ at 134 true ∷ at 195 true ∷ at 248 false ∷ at 1000 true ∷ at 96 false ∷ at 96 true ∷ at 134 true ∷ at 195 true ∷ at 248 false ∷ at 1000 true ∷ at 94 false ∷ at 93 true ∷ at 134 true ∷ at 195 true ∷ at 248 false ∷ at 1000 false ∷ at 96 false ∷ at 95 false ∷ at 93 true ∷ at 134 false ∷ at 135 true ∷ at 196 true ∷ at 248 false ∷ at 1000 true ∷ at 95 false ∷ at 93 false ∷ at 94 false ∷ at 93 true ∷ at 134 true ∷ at 195 false ∷ at 135 false ∷ at 136 true ∷ at 197 true ∷ at 248 false ∷ at 1000 false ∷ at 249 false ∷ at 1000 true ∷ []
unfolding words
d5_bins = refl

d6_moves : motion_by (view_in (record { kind = SliceKind.B; width = 4; first = 4; qp = 42; t8x8 = true; refs0 = 2; refs1 = 1 }) (λ n. Some (block (pos 0) (negsuc 42) (pos 5) (negsuc 0) (pos 0) (pos 0)) ∷ Some (block (pos 0) (pos 0) (pos 0) (negsuc 0) (pos 0) (pos 0)) ∷ Some (block (pos 1) (pos 7) (pos 1) (negsuc 0) (pos 0) (pos 0)) ∷ Some (block (pos 2) (negsuc 0) (negsuc 1) (negsuc 0) (pos 0) (pos 0)) ∷ []) (d4 ∷ d5 ∷ [])) MbKind.BDirect (written_of d6) ≡ d6.motion
unfolding words
d6_moves = refl

d6_bins : macroblock_string (near_in (record { kind = SliceKind.B; width = 4; first = 4; qp = 42; t8x8 = true; refs0 = 2; refs1 = 1 }) (d4 ∷ d5 ∷ [])) d6 ≡ at 25 false ∷ at 28 false ∷ at 73 true ∷ at 73 false ∷ at 73 false ∷ at 76 false ∷ at 77 false ∷ at 399 true ∷ at 60 false ∷ at 402 false ∷ at 403 true ∷ at 418 false ∷ at 404 false ∷ at 405 false ∷ at 406 false ∷ at 407 true ∷ at 418 true ∷ at 427 false ∷ at 1000 true ∷ at 428 false ∷ at 1000 true ∷ []
unfolding words
d6_bins = refl

-- ---- a B slice: B8x16 of 8x8 transforms

abbrev e0 : MbRecord
e0 = record (blank_record MbKind.BSkip 42) { motion = (block (pos 0) (pos 0) (pos 0) (pos 0) (pos 0) (pos 0)) ∷ (block (pos 0) (pos 0) (pos 0) (pos 0) (pos 0) (pos 0)) ∷ (block (pos 0) (pos 0) (pos 0) (pos 0) (pos 0) (pos 0)) ∷ (block (pos 0) (pos 0) (pos 0) (pos 0) (pos 0) (pos 0)) ∷ []; chroma_mode = 0; luma_cbp = 0; chroma_cbp = 0 }

abbrev e1 : MbRecord
e1 = record (blank_record MbKind.B8x16 42) { motion = (block (pos 0) (pos 7) (pos 7) (negsuc 0) (pos 0) (pos 0)) ∷ (block (pos 0) (pos 9) (pos 5) (pos 0) (negsuc 7) (negsuc 59)) ∷ (block (pos 0) (pos 7) (pos 7) (negsuc 0) (pos 0) (pos 0)) ∷ (block (pos 0) (pos 9) (pos 5) (pos 0) (negsuc 7) (negsuc 59)) ∷ []; mvd = to_place (pos 7) (pos 7) ∷ to_place (pos 2) (negsuc 1) ∷ to_place (pos 7) (pos 7) ∷ to_place (pos 2) (negsuc 1) ∷ to_place (pos 0) (pos 0) ∷ to_place (negsuc 7) (negsuc 59) ∷ to_place (pos 0) (pos 0) ∷ to_place (negsuc 7) (negsuc 59) ∷ []; transform8 = true; chroma_mode = 0; luma_cbp = 12; chroma_cbp = 0; luma = (replicate 129 (pos 0) ++ (negsuc 0 ∷ []) ++ replicate 4 (pos 0) ++ (pos 1 ∷ []) ++ replicate 60 (pos 0) ++ (negsuc 0 ∷ []) ++ replicate 60 (pos 0)) }

e1_moves : motion_by (view_in (record { kind = SliceKind.B; width = 4; first = 0; qp = 42; t8x8 = true; refs0 = 1; refs1 = 1 }) (λ n. Some (block (pos 0) (pos 15) (pos 10) (negsuc 0) (pos 0) (pos 0)) ∷ Some (block (pos 0) (negsuc 56) (pos 67) (negsuc 0) (pos 0) (pos 0)) ∷ Some (block (pos 0) (pos 49) (pos 56) (negsuc 0) (pos 0) (pos 0)) ∷ Some (block (pos 0) (negsuc 55) (pos 53) (negsuc 0) (pos 0) (pos 0)) ∷ []) (e0 ∷ [])) MbKind.B8x16 (written_of e1) ≡ e1.motion
unfolding words
e1_moves = refl

e1_bins : macroblock_string (near_in (record { kind = SliceKind.B; width = 4; first = 0; qp = 42; t8x8 = true; refs0 = 1; refs1 = 1 }) (e0 ∷ [])) e1 ≡ at 24 false ∷ at 27 true ∷ at 30 true ∷ at 31 true ∷ at 32 false ∷ at 32 false ∷ at 32 false ∷ at 32 true ∷ at 40 true ∷ at 43 true ∷ at 44 true ∷ at 45 true ∷ at 46 true ∷ at 46 true ∷ at 46 true ∷ at 46 false ∷ at 1000 false ∷ at 47 true ∷ at 50 true ∷ at 51 true ∷ at 52 true ∷ at 53 true ∷ at 53 true ∷ at 53 true ∷ at 53 false ∷ at 1000 false ∷ at 41 true ∷ at 43 true ∷ at 44 false ∷ at 1000 false ∷ at 48 true ∷ at 50 true ∷ at 51 false ∷ at 1000 true ∷ at 40 true ∷ at 43 true ∷ at 44 true ∷ at 45 true ∷ at 46 true ∷ at 46 true ∷ at 46 true ∷ at 46 true ∷ at 46 false ∷ at 1000 true ∷ at 47 true ∷ at 50 true ∷ at 51 true ∷ at 52 true ∷ at 53 true ∷ at 53 true ∷ at 53 true ∷ at 53 true ∷ at 53 true ∷ at 1000 true ∷ at 1000 true ∷ at 1000 false ∷ at 1000 true ∷ at 1000 true ∷ at 1000 false ∷ at 1000 true ∷ at 1000 true ∷ at 1000 true ∷ at 74 false ∷ at 74 false ∷ at 76 true ∷ at 75 true ∷ at 77 false ∷ at 399 true ∷ at 60 false ∷ at 402 false ∷ at 403 true ∷ at 418 false ∷ at 404 false ∷ at 405 false ∷ at 406 false ∷ at 407 false ∷ at 407 true ∷ at 418 true ∷ at 427 false ∷ at 1000 false ∷ at 428 false ∷ at 1000 true ∷ at 402 false ∷ at 403 false ∷ at 404 false ∷ at 405 true ∷ at 418 true ∷ at 427 false ∷ at 1000 true ∷ []
unfolding words
e1_bins = refl

-- ---- a B slice: B16x8

abbrev f4 : MbRecord
f4 = record (blank_record MbKind.BSkip 42) { motion = (block (pos 0) (pos 0) (pos 0) (pos 0) (pos 0) (pos 0)) ∷ (block (pos 0) (pos 0) (pos 0) (pos 0) (pos 0) (pos 0)) ∷ (block (pos 0) (pos 0) (pos 0) (pos 0) (pos 0) (pos 0)) ∷ (block (pos 0) (pos 0) (pos 0) (pos 0) (pos 0) (pos 0)) ∷ []; chroma_mode = 0; luma_cbp = 0; chroma_cbp = 0 }

abbrev f5 : MbRecord
f5 = record (blank_record MbKind.B8x8 42) { motion = (block (pos 0) (negsuc 65) (pos 34) (pos 0) (pos 1) (negsuc 18)) ∷ (block (negsuc 0) (pos 0) (pos 0) (pos 0) (pos 63) (negsuc 2)) ∷ (block (negsuc 0) (pos 0) (pos 0) (pos 0) (pos 0) (negsuc 1)) ∷ (block (pos 0) (pos 7) (pos 1) (pos 0) (pos 67) (pos 7)) ∷ []; mvd = to_place (negsuc 65) (pos 34) ∷ to_place (pos 0) (pos 0) ∷ to_place (pos 0) (pos 0) ∷ to_place (pos 73) (negsuc 32) ∷ to_place (pos 1) (negsuc 18) ∷ to_place (pos 62) (pos 16) ∷ to_place (negsuc 0) (pos 1) ∷ to_place (pos 66) (pos 10) ∷ []; transform8 = true; chroma_mode = 0; luma_cbp = 13; chroma_cbp = 0; luma = (replicate 2 (pos 0) ++ (negsuc 0 ∷ []) ++ replicate 1 (pos 0) ++ (negsuc 0 ∷ []) ++ replicate 123 (pos 0) ++ (negsuc 0 ∷ []) ++ replicate 65 (pos 0) ++ (negsuc 0 ∷ []) ++ replicate 61 (pos 0)) }

abbrev f6 : MbRecord
f6 = record (blank_record MbKind.B16x8 42) { motion = (block (pos 0) (negsuc 53) (pos 23) (pos 0) (negsuc 0) (pos 1)) ∷ (block (pos 0) (negsuc 53) (pos 23) (pos 0) (negsuc 0) (pos 1)) ∷ (block (pos 0) (pos 1) (pos 0) (pos 0) (negsuc 1) (pos 1)) ∷ (block (pos 0) (pos 1) (pos 0) (pos 0) (negsuc 1) (pos 1)) ∷ []; mvd = to_place (negsuc 53) (pos 23) ∷ to_place (negsuc 53) (pos 23) ∷ to_place (negsuc 5) (negsuc 0) ∷ to_place (negsuc 5) (negsuc 0) ∷ to_place (negsuc 63) (pos 4) ∷ to_place (negsuc 63) (pos 4) ∷ to_place (negsuc 68) (negsuc 5) ∷ to_place (negsuc 68) (negsuc 5) ∷ []; chroma_mode = 0; luma_cbp = 0; chroma_cbp = 0 }

f6_moves : motion_by (view_in (record { kind = SliceKind.B; width = 4; first = 4; qp = 42; t8x8 = true; refs0 = 1; refs1 = 1 }) (λ n. Some (block (pos 0) (pos 6) (negsuc 0) (negsuc 0) (pos 0) (pos 0)) ∷ Some (block (pos 0) (negsuc 1) (negsuc 0) (negsuc 0) (pos 0) (pos 0)) ∷ Some (block (pos 0) (pos 6) (negsuc 0) (negsuc 0) (pos 0) (pos 0)) ∷ Some (block (pos 0) (negsuc 1) (negsuc 0) (negsuc 0) (pos 0) (pos 0)) ∷ []) (f4 ∷ f5 ∷ [])) MbKind.B16x8 (written_of f6) ≡ f6.motion
unfolding words
f6_moves = refl

f6_bins : macroblock_string (near_in (record { kind = SliceKind.B; width = 4; first = 4; qp = 42; t8x8 = true; refs0 = 1; refs1 = 1 }) (f4 ∷ f5 ∷ [])) f6 ≡ at 25 false ∷ at 28 true ∷ at 30 true ∷ at 31 true ∷ at 32 true ∷ at 32 false ∷ at 32 false ∷ at 32 false ∷ at 40 true ∷ at 43 true ∷ at 44 true ∷ at 45 true ∷ at 46 true ∷ at 46 true ∷ at 46 true ∷ at 46 true ∷ at 46 true ∷ at 1000 true ∷ at 1000 true ∷ at 1000 false ∷ at 1000 true ∷ at 1000 false ∷ at 1000 true ∷ at 1000 false ∷ at 1000 true ∷ at 1000 true ∷ at 47 true ∷ at 50 true ∷ at 51 true ∷ at 52 true ∷ at 53 true ∷ at 53 true ∷ at 53 true ∷ at 53 true ∷ at 53 true ∷ at 1000 true ∷ at 1000 false ∷ at 1000 false ∷ at 1000 true ∷ at 1000 true ∷ at 1000 false ∷ at 1000 false ∷ at 42 true ∷ at 43 true ∷ at 44 true ∷ at 45 true ∷ at 46 true ∷ at 46 true ∷ at 46 false ∷ at 1000 true ∷ at 49 true ∷ at 50 false ∷ at 1000 true ∷ at 42 true ∷ at 43 true ∷ at 44 true ∷ at 45 true ∷ at 46 true ∷ at 46 true ∷ at 46 true ∷ at 46 true ∷ at 46 true ∷ at 1000 true ∷ at 1000 true ∷ at 1000 false ∷ at 1000 true ∷ at 1000 true ∷ at 1000 true ∷ at 1000 true ∷ at 1000 true ∷ at 1000 true ∷ at 48 true ∷ at 50 true ∷ at 51 true ∷ at 52 true ∷ at 53 false ∷ at 1000 false ∷ at 42 true ∷ at 43 true ∷ at 44 true ∷ at 45 true ∷ at 46 true ∷ at 46 true ∷ at 46 true ∷ at 46 true ∷ at 46 true ∷ at 1000 true ∷ at 1000 true ∷ at 1000 true ∷ at 1000 false ∷ at 1000 false ∷ at 1000 false ∷ at 1000 false ∷ at 1000 true ∷ at 1000 false ∷ at 1000 false ∷ at 1000 true ∷ at 48 true ∷ at 50 true ∷ at 51 true ∷ at 52 true ∷ at 53 true ∷ at 53 true ∷ at 53 false ∷ at 1000 true ∷ at 74 false ∷ at 74 false ∷ at 75 false ∷ at 76 false ∷ at 77 false ∷ []
unfolding words
f6_bins = refl
