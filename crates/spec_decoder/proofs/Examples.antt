-- Worked streams, from the bytes to the samples. Another encoder wrote them, and its samples are these; so are those of a further decoder.
use Rattle.std.proofs.Common.{◌≡◌, ℕ, List, [], ◌∷◌, replicate, Some, refl}
use Rattle.std.specs.Int.Count.{count_leading_zeros}
use Rattle.spec_film.specs.Films.{Planes}
use Rattle.spec_film.specs.Places.{sample_at}
use Rattle.enc_tables.specs.Arithmetic.{after_lps, lps_range}
use Rattle.enc_tables.specs.Records.{blank_record}
use Rattle.enc_tables.specs.Steps as enc_tables_steps
use Rattle.spec_bits.specs.Bits.{bits_of_bytes, bytes_of_bits, digits}
use Rattle.spec_bits.specs.Units.{parted, unescape, units_of}
use Rattle.spec_reconstruction.specs.Chroma.{build_chroma, chroma_built, prediction_chroma, chroma_over}
use Rattle.spec_reconstruction.specs.InOrder.{built_in_order}
use Rattle.spec_reconstruction.specs.Inter.{predicted_by, luma_predicted, chroma_predicted, inter4, inter_luma_built, inter_built}
use Rattle.spec_reconstruction.specs.Luma.{build16, build4, build8, luma16_built, luma4_built, luma8_built, prediction16, prediction4, prediction8, unscanned}
use Rattle.spec_reconstruction.specs.Parts.{block_rows, with_rows}
use Rattle.spec_reconstruction.specs.Records.{intra_built, luma_built, macroblock_built}
use Rattle.spec_reconstruction.specs.Residuals.{built4, built8, built_with_dc, coefficients4, coefficients8, constructed}
use Rattle.spec_cabac.specs.Decoder.{decide, refill, take_bits}
use Rattle.spec_contexts.specs.Increments.{inc_chroma_cbp, inc_chroma_mode, inc_coded, inc_luma_cbp, inc_skip, inc_transform, inc_type_i}
use Rattle.spec_contexts.specs.Near.{above_block4, left_block4}
use Rattle.spec_contexts.specs.States.{pre_state, start_state, start_states}
use Rattle.spec_decoder.specs.Frames.{decode, picture_made, samples_put, slice_made, slices_made, blank_planes}
use Rattle.spec_decoder.specs.Macroblocks.{read_slice}
use Rattle.spec_filter.specs.Edges.{edge_filtered, line_at, line_filtered, part_filtered, with_line}
use Rattle.spec_filter.specs.Lines.{filtered, is_filtered, second, step_at, strong, weak}
use Rattle.spec_filter.specs.Macroblocks.{chroma_horizontal, chroma_macroblock, chroma_vertical, edges_between, horizontal_strength, luma_horizontal, luma_macroblock, luma_vertical, strengths, vertical_strength}
use Rattle.spec_filter.specs.Pictures.{chroma_filtered, edges_of, luma_filtered, picture_filtered}
use Rattle.spec_filter.specs.Strengths.{filter_qp, is_alike, is_coded, rule_at, strength}
use Rattle.spec_intra.specs.Block.{line}
use Rattle.spec_intra.specs.Block as intra_block
use Rattle.spec_intra.specs.Directions.{down_left, down_right, horizontal, horizontal_down, horizontal_up, vertical, vertical_left, vertical_right}
use Rattle.spec_intra.specs.Means.{chroma_beside, chroma_means, mean, mean_of_sides}
use Rattle.spec_intra.specs.Near.{line_there, neighbours16, neighbours4, neighbours8, neighbours_chroma}
use Rattle.spec_intra.specs.Predictions.{edge4, edge8, from_edge, predicted16, predicted_chroma}
use Rattle.spec_intra.specs.Slopes.{plane_at, slope, tilt}
use Rattle.spec_intra.specs.Smoothing.{smoothed}
use Rattle.spec_partitions.specs.Derived.{skip_motion}
use Rattle.spec_macroblock.specs.Macroblock.{macroblock, with_chroma_ac, with_chroma_dc, with_chroma_mode, with_chroma_pattern, with_inter_transform, with_luma, with_luma_dc, with_luma_pattern, with_modes, with_qp, with_transform, with_type}
use Rattle.spec_macroblock.specs.Modes.{mode, predicted4, predicted8}
use Rattle.spec_partitions.specs.Near.{last_has_delta, last_qp, near_in}
use Rattle.spec_partitions.specs.Parts.{parts}
use Rattle.spec_lists.specs.Heads.{common}
use Rattle.spec_inter.specs.Chroma.{inter_chroma}
use Rattle.spec_inter.specs.Luma.{firsts, inter_luma, seconds}
use Rattle.spec_lists.specs.Colocated.{colocated_at}
use Rattle.spec_lists.specs.Lists.{lists_of, nearer_first, nearest_first}
use Rattle.spec_lists.specs.References.{slid}
use Rattle.spec_decoder.specs.Pictures.{made, decode_by, joined, shown, slice_step, step, with_slice}
use Rattle.spec_decoder.specs.Pictures as pictures_decode
use Rattle.spec_headers.specs.HeadReaders.{cropping, idr_slice, modification, other_slice, picture, sequence}
use Rattle.spec_reading.specs.Reader.{fixed, se, signed_at, u_behind, ue_behind}
use Rattle.spec_reading.specs.Reader as reading_reader
use Rattle.spec_residual.specs.Blocks.{listed}
use Rattle.spec_residual.specs.Inverse.{inverse4_of, inverse8_of}
use Rattle.spec_residual.specs.Rescaled.{chroma_dc_rescaled, luma_dc_rescaled, rescaled, scaling}
use Rattle.spec_slice_data.specs.Decoding.{decoded, decoded_from}
use Rattle.spec_slice_data.specs.Slice.{slice_data}
use Rattle.spec_slice_payload.specs.Allowed.{modes_allowed, all_allowed}
use Rattle.spec_slice_payload.specs.Reading.{read_data, read_layer}
use Rattle.spec_decoder.specs.Output.{placed}
use Rattle.spec_film.specs.Cropping.{cropped_plane}
use Rattle.spec_decoder.specs.Sets.{read_set}
use Rattle.spec_decoder.specs.Pcm.{pcm_macroblock, pcm_macroblocks, read_pcm_slice}
use Rattle.spec_syntax.specs.Blocks.{above_one, equal_one, levels, significance, some_levels}
use Rattle.spec_syntax.specs.Blocks as syntax_blocks
use Rattle.spec_syntax.specs.Elements.{chroma_mode, chroma_pattern, intra_type, luma_pattern, mode_rem, qp_delta}
use Rattle.spec_syntax.specs.Levels.{coded_at, first_at, last_at, minus1, others_at, significant_at}
use Rattle.spec_syntax.specs.Numbers.{golomb, number, ones}
use Rattle.spec_syntax.specs.Syntax as syntax_syntax

-- 16 by 16 samples: one macroblock of Intra 4x4 with five of its modes, of QP 30, with AC levels in luma and chroma
small_stream : List ℕ
small_stream =
    0 ∷ 0 ∷ 0 ∷ 1 ∷ 103 ∷ 100 ∷ 0 ∷ 51 ∷ 172 ∷ 27 ∷ 26 ∷ 222 ∷ 64 ∷ 0 ∷ 0 ∷ 0 ∷ 1 ∷ 104 ∷ 238 ∷ 56 ∷ 176 ∷ 0
    ∷ 0 ∷ 1 ∷ 101 ∷ 136 ∷ 128 ∷ 0 ∷ 64 ∷ 0 ∷ 1 ∷ 31 ∷ 210 ∷ 159 ∷ 105 ∷ 59 ∷ 148 ∷ 136 ∷ 206 ∷ 220 ∷ 119 ∷ 7 ∷ 252 ∷ 230
    ∷ 70 ∷ 196 ∷ 237 ∷ 151 ∷ 7 ∷ 227 ∷ 64 ∷ 186 ∷ 52 ∷ 204 ∷ 84 ∷ 100 ∷ 88 ∷ 13 ∷ 14 ∷ 239 ∷ 213 ∷ 200 ∷ 199 ∷ 241 ∷ 174 ∷ 181
    ∷ 144 ∷ []

small_shown : Planes
small_shown = record {
  luma =
      57 ∷ 60 ∷ 66 ∷ 72 ∷ 75 ∷ 75 ∷ 75 ∷ 75 ∷ 74 ∷ 73 ∷ 70 ∷ 69 ∷ 67 ∷ 67 ∷ 73 ∷ 77
      ∷ 57 ∷ 60 ∷ 66 ∷ 71 ∷ 72 ∷ 72 ∷ 71 ∷ 71 ∷ 70 ∷ 69 ∷ 67 ∷ 66 ∷ 66 ∷ 67 ∷ 73 ∷ 77
      ∷ 55 ∷ 58 ∷ 64 ∷ 66 ∷ 67 ∷ 66 ∷ 66 ∷ 65 ∷ 64 ∷ 63 ∷ 64 ∷ 64 ∷ 66 ∷ 69 ∷ 75 ∷ 79
      ∷ 54 ∷ 58 ∷ 63 ∷ 64 ∷ 63 ∷ 61 ∷ 60 ∷ 59 ∷ 58 ∷ 59 ∷ 62 ∷ 64 ∷ 65 ∷ 71 ∷ 77 ∷ 81
      ∷ 51 ∷ 55 ∷ 56 ∷ 55 ∷ 54 ∷ 54 ∷ 53 ∷ 53 ∷ 55 ∷ 57 ∷ 62 ∷ 68 ∷ 74 ∷ 78 ∷ 87 ∷ 93
      ∷ 49 ∷ 51 ∷ 49 ∷ 48 ∷ 50 ∷ 50 ∷ 51 ∷ 52 ∷ 54 ∷ 59 ∷ 67 ∷ 75 ∷ 82 ∷ 85 ∷ 93 ∷ 97
      ∷ 45 ∷ 43 ∷ 43 ∷ 45 ∷ 47 ∷ 49 ∷ 51 ∷ 52 ∷ 55 ∷ 63 ∷ 71 ∷ 80 ∷ 84 ∷ 87 ∷ 94 ∷ 98
      ∷ 39 ∷ 36 ∷ 38 ∷ 42 ∷ 45 ∷ 48 ∷ 53 ∷ 56 ∷ 59 ∷ 69 ∷ 78 ∷ 83 ∷ 86 ∷ 89 ∷ 93 ∷ 97
      ∷ 35 ∷ 35 ∷ 38 ∷ 42 ∷ 45 ∷ 49 ∷ 57 ∷ 67 ∷ 74 ∷ 75 ∷ 80 ∷ 84 ∷ 86 ∷ 87 ∷ 91 ∷ 91
      ∷ 35 ∷ 36 ∷ 41 ∷ 44 ∷ 49 ∷ 54 ∷ 65 ∷ 73 ∷ 79 ∷ 79 ∷ 81 ∷ 83 ∷ 83 ∷ 84 ∷ 86 ∷ 86
      ∷ 38 ∷ 41 ∷ 45 ∷ 47 ∷ 57 ∷ 65 ∷ 69 ∷ 75 ∷ 79 ∷ 79 ∷ 79 ∷ 80 ∷ 80 ∷ 79 ∷ 80 ∷ 80
      ∷ 44 ∷ 47 ∷ 47 ∷ 44 ∷ 71 ∷ 75 ∷ 78 ∷ 78 ∷ 79 ∷ 80 ∷ 79 ∷ 79 ∷ 78 ∷ 76 ∷ 75 ∷ 75
      ∷ 49 ∷ 50 ∷ 52 ∷ 70 ∷ 74 ∷ 74 ∷ 74 ∷ 76 ∷ 76 ∷ 76 ∷ 76 ∷ 76 ∷ 75 ∷ 74 ∷ 73 ∷ 73
      ∷ 56 ∷ 54 ∷ 60 ∷ 73 ∷ 71 ∷ 70 ∷ 69 ∷ 69 ∷ 69 ∷ 69 ∷ 69 ∷ 69 ∷ 70 ∷ 71 ∷ 75 ∷ 75
      ∷ 65 ∷ 59 ∷ 63 ∷ 73 ∷ 64 ∷ 63 ∷ 62 ∷ 62 ∷ 62 ∷ 62 ∷ 62 ∷ 61 ∷ 63 ∷ 67 ∷ 77 ∷ 83
      ∷ 69 ∷ 68 ∷ 66 ∷ 66 ∷ 63 ∷ 61 ∷ 60 ∷ 59 ∷ 59 ∷ 59 ∷ 59 ∷ 58 ∷ 59 ∷ 65 ∷ 79 ∷ 87 ∷ [];
  cb =
      113 ∷ 116 ∷ 122 ∷ 128 ∷ 137 ∷ 136 ∷ 129 ∷ 125
      ∷ 113 ∷ 116 ∷ 122 ∷ 128 ∷ 133 ∷ 134 ∷ 131 ∷ 129
      ∷ 113 ∷ 116 ∷ 122 ∷ 126 ∷ 128 ∷ 131 ∷ 134 ∷ 136
      ∷ 116 ∷ 118 ∷ 120 ∷ 122 ∷ 124 ∷ 128 ∷ 137 ∷ 142
      ∷ 118 ∷ 118 ∷ 120 ∷ 120 ∷ 122 ∷ 127 ∷ 138 ∷ 144
      ∷ 117 ∷ 118 ∷ 120 ∷ 121 ∷ 123 ∷ 128 ∷ 137 ∷ 142
      ∷ 110 ∷ 114 ∷ 124 ∷ 128 ∷ 130 ∷ 131 ∷ 134 ∷ 135
      ∷ 106 ∷ 113 ∷ 126 ∷ 132 ∷ 134 ∷ 133 ∷ 132 ∷ 131 ∷ [];
  cr =
      137 ∷ 137 ∷ 137 ∷ 137 ∷ 137 ∷ 137 ∷ 137 ∷ 137
      ∷ 137 ∷ 137 ∷ 137 ∷ 137 ∷ 137 ∷ 137 ∷ 137 ∷ 137
      ∷ 137 ∷ 137 ∷ 137 ∷ 137 ∷ 137 ∷ 137 ∷ 137 ∷ 137
      ∷ 134 ∷ 134 ∷ 134 ∷ 134 ∷ 134 ∷ 134 ∷ 134 ∷ 134
      ∷ 131 ∷ 131 ∷ 131 ∷ 131 ∷ 131 ∷ 131 ∷ 131 ∷ 131
      ∷ 128 ∷ 128 ∷ 128 ∷ 128 ∷ 128 ∷ 128 ∷ 128 ∷ 128
      ∷ 128 ∷ 128 ∷ 128 ∷ 128 ∷ 128 ∷ 128 ∷ 128 ∷ 128
      ∷ 128 ∷ 128 ∷ 128 ∷ 128 ∷ 128 ∷ 128 ∷ 128 ∷ 128 ∷ [];
}

-- 16 by 32 samples: two slices of one macroblock each, of QP 44, the first Intra 16x16, the second Intra 8x8
large_stream : List ℕ
large_stream =
    0 ∷ 0 ∷ 0 ∷ 1 ∷ 103 ∷ 100 ∷ 0 ∷ 51 ∷ 172 ∷ 27 ∷ 26 ∷ 213 ∷ 144 ∷ 0 ∷ 0 ∷ 0 ∷ 1 ∷ 104 ∷ 238 ∷ 56 ∷ 176 ∷ 0
    ∷ 0 ∷ 1 ∷ 101 ∷ 136 ∷ 128 ∷ 0 ∷ 64 ∷ 0 ∷ 0 ∷ 73 ∷ 245 ∷ 2 ∷ 36 ∷ 125 ∷ 32 ∷ 0 ∷ 0 ∷ 1 ∷ 101 ∷ 66 ∷ 32 ∷ 0
    ∷ 16 ∷ 0 ∷ 0 ∷ 18 ∷ 127 ∷ 125 ∷ 175 ∷ 175 ∷ 178 ∷ 180 ∷ 215 ∷ 88 ∷ []

large_shown : Planes
large_shown = record {
  luma =
      128 ∷ 128 ∷ 128 ∷ 128 ∷ 128 ∷ 128 ∷ 128 ∷ 128 ∷ 128 ∷ 128 ∷ 128 ∷ 128 ∷ 128 ∷ 128 ∷ 128 ∷ 128
      ∷ 128 ∷ 128 ∷ 128 ∷ 128 ∷ 128 ∷ 128 ∷ 128 ∷ 128 ∷ 128 ∷ 128 ∷ 128 ∷ 128 ∷ 128 ∷ 128 ∷ 128 ∷ 128
      ∷ 128 ∷ 128 ∷ 128 ∷ 128 ∷ 128 ∷ 128 ∷ 128 ∷ 128 ∷ 128 ∷ 128 ∷ 128 ∷ 128 ∷ 128 ∷ 128 ∷ 128 ∷ 128
      ∷ 128 ∷ 128 ∷ 128 ∷ 128 ∷ 128 ∷ 128 ∷ 128 ∷ 128 ∷ 128 ∷ 128 ∷ 128 ∷ 128 ∷ 128 ∷ 128 ∷ 128 ∷ 128
      ∷ 128 ∷ 128 ∷ 128 ∷ 128 ∷ 128 ∷ 128 ∷ 128 ∷ 128 ∷ 128 ∷ 128 ∷ 128 ∷ 128 ∷ 128 ∷ 128 ∷ 128 ∷ 128
      ∷ 128 ∷ 128 ∷ 128 ∷ 128 ∷ 128 ∷ 128 ∷ 128 ∷ 128 ∷ 128 ∷ 128 ∷ 128 ∷ 128 ∷ 128 ∷ 128 ∷ 128 ∷ 128
      ∷ 128 ∷ 128 ∷ 128 ∷ 128 ∷ 128 ∷ 128 ∷ 128 ∷ 128 ∷ 128 ∷ 128 ∷ 128 ∷ 128 ∷ 128 ∷ 128 ∷ 128 ∷ 128
      ∷ 128 ∷ 128 ∷ 128 ∷ 128 ∷ 128 ∷ 128 ∷ 128 ∷ 128 ∷ 128 ∷ 128 ∷ 128 ∷ 128 ∷ 128 ∷ 128 ∷ 128 ∷ 128
      ∷ 128 ∷ 128 ∷ 128 ∷ 128 ∷ 128 ∷ 128 ∷ 128 ∷ 128 ∷ 128 ∷ 128 ∷ 128 ∷ 128 ∷ 128 ∷ 128 ∷ 128 ∷ 128
      ∷ 128 ∷ 128 ∷ 128 ∷ 128 ∷ 128 ∷ 128 ∷ 128 ∷ 128 ∷ 128 ∷ 128 ∷ 128 ∷ 128 ∷ 128 ∷ 128 ∷ 128 ∷ 128
      ∷ 128 ∷ 128 ∷ 128 ∷ 128 ∷ 128 ∷ 128 ∷ 128 ∷ 128 ∷ 128 ∷ 128 ∷ 128 ∷ 128 ∷ 128 ∷ 128 ∷ 128 ∷ 128
      ∷ 128 ∷ 128 ∷ 128 ∷ 128 ∷ 128 ∷ 128 ∷ 128 ∷ 128 ∷ 128 ∷ 128 ∷ 128 ∷ 128 ∷ 128 ∷ 128 ∷ 128 ∷ 128
      ∷ 128 ∷ 128 ∷ 128 ∷ 128 ∷ 128 ∷ 128 ∷ 128 ∷ 128 ∷ 128 ∷ 128 ∷ 128 ∷ 128 ∷ 128 ∷ 128 ∷ 128 ∷ 128
      ∷ 128 ∷ 128 ∷ 128 ∷ 128 ∷ 128 ∷ 128 ∷ 128 ∷ 128 ∷ 128 ∷ 128 ∷ 128 ∷ 128 ∷ 128 ∷ 128 ∷ 128 ∷ 128
      ∷ 128 ∷ 128 ∷ 128 ∷ 128 ∷ 128 ∷ 128 ∷ 128 ∷ 128 ∷ 128 ∷ 128 ∷ 128 ∷ 128 ∷ 128 ∷ 128 ∷ 128 ∷ 128
      ∷ 128 ∷ 128 ∷ 128 ∷ 128 ∷ 128 ∷ 128 ∷ 128 ∷ 128 ∷ 128 ∷ 128 ∷ 128 ∷ 128 ∷ 128 ∷ 128 ∷ 128 ∷ 128
      ∷ 128 ∷ 128 ∷ 128 ∷ 128 ∷ 128 ∷ 128 ∷ 128 ∷ 128 ∷ 128 ∷ 128 ∷ 128 ∷ 128 ∷ 128 ∷ 128 ∷ 128 ∷ 128
      ∷ 128 ∷ 128 ∷ 128 ∷ 128 ∷ 128 ∷ 128 ∷ 128 ∷ 128 ∷ 128 ∷ 128 ∷ 128 ∷ 128 ∷ 128 ∷ 128 ∷ 128 ∷ 128
      ∷ 128 ∷ 128 ∷ 128 ∷ 128 ∷ 128 ∷ 128 ∷ 128 ∷ 128 ∷ 128 ∷ 128 ∷ 128 ∷ 128 ∷ 128 ∷ 128 ∷ 128 ∷ 128
      ∷ 128 ∷ 128 ∷ 128 ∷ 128 ∷ 128 ∷ 128 ∷ 128 ∷ 128 ∷ 128 ∷ 128 ∷ 128 ∷ 128 ∷ 128 ∷ 128 ∷ 128 ∷ 128
      ∷ 128 ∷ 128 ∷ 128 ∷ 128 ∷ 128 ∷ 128 ∷ 128 ∷ 128 ∷ 128 ∷ 128 ∷ 128 ∷ 128 ∷ 128 ∷ 128 ∷ 128 ∷ 128
      ∷ 128 ∷ 128 ∷ 128 ∷ 128 ∷ 128 ∷ 128 ∷ 128 ∷ 128 ∷ 128 ∷ 128 ∷ 128 ∷ 128 ∷ 128 ∷ 128 ∷ 128 ∷ 128
      ∷ 128 ∷ 128 ∷ 128 ∷ 128 ∷ 128 ∷ 128 ∷ 127 ∷ 127 ∷ 126 ∷ 125 ∷ 125 ∷ 125 ∷ 125 ∷ 125 ∷ 125 ∷ 125
      ∷ 128 ∷ 128 ∷ 128 ∷ 128 ∷ 128 ∷ 128 ∷ 127 ∷ 126 ∷ 125 ∷ 124 ∷ 123 ∷ 123 ∷ 123 ∷ 123 ∷ 123 ∷ 123
      ∷ 128 ∷ 128 ∷ 128 ∷ 128 ∷ 128 ∷ 128 ∷ 126 ∷ 125 ∷ 123 ∷ 122 ∷ 120 ∷ 120 ∷ 120 ∷ 120 ∷ 120 ∷ 120
      ∷ 128 ∷ 128 ∷ 128 ∷ 128 ∷ 128 ∷ 128 ∷ 126 ∷ 124 ∷ 122 ∷ 120 ∷ 118 ∷ 118 ∷ 118 ∷ 118 ∷ 118 ∷ 118
      ∷ 128 ∷ 128 ∷ 128 ∷ 128 ∷ 128 ∷ 128 ∷ 125 ∷ 123 ∷ 120 ∷ 118 ∷ 115 ∷ 115 ∷ 115 ∷ 115 ∷ 115 ∷ 115
      ∷ 128 ∷ 128 ∷ 128 ∷ 128 ∷ 128 ∷ 128 ∷ 125 ∷ 123 ∷ 120 ∷ 118 ∷ 115 ∷ 115 ∷ 115 ∷ 115 ∷ 115 ∷ 115
      ∷ 128 ∷ 128 ∷ 128 ∷ 128 ∷ 128 ∷ 128 ∷ 125 ∷ 123 ∷ 120 ∷ 118 ∷ 115 ∷ 115 ∷ 115 ∷ 115 ∷ 115 ∷ 115
      ∷ 128 ∷ 128 ∷ 128 ∷ 128 ∷ 128 ∷ 128 ∷ 125 ∷ 123 ∷ 120 ∷ 118 ∷ 115 ∷ 115 ∷ 115 ∷ 115 ∷ 115 ∷ 115
      ∷ 128 ∷ 128 ∷ 128 ∷ 128 ∷ 128 ∷ 128 ∷ 125 ∷ 123 ∷ 120 ∷ 118 ∷ 115 ∷ 115 ∷ 115 ∷ 115 ∷ 115 ∷ 115
      ∷ 128 ∷ 128 ∷ 128 ∷ 128 ∷ 128 ∷ 128 ∷ 125 ∷ 123 ∷ 120 ∷ 118 ∷ 115 ∷ 115 ∷ 115 ∷ 115 ∷ 115 ∷ 115 ∷ [];
  cb =
      117 ∷ 117 ∷ 117 ∷ 121 ∷ 124 ∷ 128 ∷ 128 ∷ 128
      ∷ 117 ∷ 117 ∷ 117 ∷ 121 ∷ 124 ∷ 128 ∷ 128 ∷ 128
      ∷ 117 ∷ 117 ∷ 117 ∷ 121 ∷ 124 ∷ 128 ∷ 128 ∷ 128
      ∷ 117 ∷ 117 ∷ 117 ∷ 121 ∷ 124 ∷ 128 ∷ 128 ∷ 128
      ∷ 117 ∷ 117 ∷ 117 ∷ 121 ∷ 124 ∷ 128 ∷ 128 ∷ 128
      ∷ 117 ∷ 117 ∷ 117 ∷ 121 ∷ 124 ∷ 128 ∷ 128 ∷ 128
      ∷ 117 ∷ 117 ∷ 117 ∷ 121 ∷ 124 ∷ 128 ∷ 128 ∷ 128
      ∷ 117 ∷ 117 ∷ 117 ∷ 121 ∷ 124 ∷ 128 ∷ 128 ∷ 128
      ∷ 117 ∷ 117 ∷ 117 ∷ 121 ∷ 124 ∷ 128 ∷ 128 ∷ 128
      ∷ 117 ∷ 117 ∷ 117 ∷ 121 ∷ 124 ∷ 128 ∷ 128 ∷ 128
      ∷ 117 ∷ 117 ∷ 117 ∷ 121 ∷ 124 ∷ 128 ∷ 128 ∷ 128
      ∷ 117 ∷ 117 ∷ 117 ∷ 121 ∷ 124 ∷ 128 ∷ 128 ∷ 128
      ∷ 117 ∷ 117 ∷ 117 ∷ 121 ∷ 124 ∷ 128 ∷ 128 ∷ 128
      ∷ 117 ∷ 117 ∷ 117 ∷ 121 ∷ 124 ∷ 128 ∷ 128 ∷ 128
      ∷ 117 ∷ 117 ∷ 117 ∷ 121 ∷ 124 ∷ 128 ∷ 128 ∷ 128
      ∷ 117 ∷ 117 ∷ 117 ∷ 121 ∷ 124 ∷ 128 ∷ 128 ∷ 128 ∷ [];
  cr =
      139 ∷ 139 ∷ 139 ∷ 139 ∷ 139 ∷ 139 ∷ 139 ∷ 139
      ∷ 139 ∷ 139 ∷ 139 ∷ 139 ∷ 139 ∷ 139 ∷ 139 ∷ 139
      ∷ 139 ∷ 139 ∷ 139 ∷ 139 ∷ 139 ∷ 139 ∷ 139 ∷ 139
      ∷ 135 ∷ 135 ∷ 135 ∷ 135 ∷ 135 ∷ 135 ∷ 135 ∷ 135
      ∷ 132 ∷ 132 ∷ 132 ∷ 132 ∷ 132 ∷ 132 ∷ 132 ∷ 132
      ∷ 128 ∷ 128 ∷ 128 ∷ 128 ∷ 128 ∷ 128 ∷ 128 ∷ 128
      ∷ 128 ∷ 128 ∷ 128 ∷ 128 ∷ 128 ∷ 128 ∷ 128 ∷ 128
      ∷ 127 ∷ 127 ∷ 127 ∷ 127 ∷ 127 ∷ 127 ∷ 127 ∷ 127
      ∷ 124 ∷ 124 ∷ 124 ∷ 124 ∷ 124 ∷ 124 ∷ 124 ∷ 124
      ∷ 123 ∷ 123 ∷ 123 ∷ 123 ∷ 123 ∷ 123 ∷ 123 ∷ 123
      ∷ 123 ∷ 123 ∷ 123 ∷ 123 ∷ 123 ∷ 123 ∷ 123 ∷ 123
      ∷ 119 ∷ 119 ∷ 119 ∷ 119 ∷ 119 ∷ 119 ∷ 119 ∷ 119
      ∷ 116 ∷ 116 ∷ 116 ∷ 116 ∷ 116 ∷ 116 ∷ 116 ∷ 116
      ∷ 112 ∷ 112 ∷ 112 ∷ 112 ∷ 112 ∷ 112 ∷ 112 ∷ 112
      ∷ 112 ∷ 112 ∷ 112 ∷ 112 ∷ 112 ∷ 112 ∷ 112 ∷ 112
      ∷ 112 ∷ 112 ∷ 112 ∷ 112 ∷ 112 ∷ 112 ∷ 112 ∷ 112 ∷ [];
}

-- 16 by 16 samples: a grey IDR picture, and a P picture whose macroblock is skipped
skipped_stream : List ℕ
skipped_stream =
    0 ∷ 0 ∷ 0 ∷ 1 ∷ 103 ∷ 100 ∷ 0 ∷ 51 ∷ 172 ∷ 27 ∷ 26 ∷ 158 ∷ 64 ∷ 0 ∷ 0 ∷ 0 ∷ 1 ∷ 104 ∷ 238 ∷ 56 ∷ 176 ∷ 0 ∷ 0 ∷ 1 ∷ 101 ∷ 136 ∷ 128 ∷ 0 ∷ 64 ∷ 0 ∷ 2 ∷ 255 ∷ 254 ∷ 214 ∷ 223 ∷ 128 ∷ 0 ∷ 0 ∷ 0 ∷ 1 ∷ 65 ∷ 154 ∷ 0 ∷ 2 ∷ 0 ∷ 5 ∷ 159 ∷ 166 ∷ 128 ∷ []

grey : Planes
grey = record { luma = replicate 256 128; cb = replicate 64 128; cr = replicate 64 128 }

rows : (decode small_stream ≡ Some (small_shown ∷ [])) × (decode large_stream ≡ Some (large_shown ∷ [])) × (decode skipped_stream ≡ Some (grey ∷ grey ∷ []))
unfolding small_stream small_shown large_stream large_shown skipped_stream grey count_leading_zeros
    after_lps lps_range blank_record enc_tables_steps.steps bits_of_bytes bytes_of_bits digits parted unescape units_of build_chroma chroma_built
    prediction_chroma built_in_order build16 build4 build8 luma16_built luma4_built luma8_built prediction16 prediction4 prediction8 unscanned
    block_rows with_rows intra_built luma_built macroblock_built built4 built8 built_with_dc coefficients4 coefficients8 constructed decide refill
    take_bits inc_chroma_cbp inc_chroma_mode inc_coded inc_luma_cbp inc_transform inc_type_i above_block4 left_block4 pre_state start_state
    start_states decode picture_made samples_put slice_made slices_made read_slice blank_planes edge_filtered line_at line_filtered part_filtered
    with_line filtered is_filtered second step_at strong weak chroma_horizontal chroma_macroblock chroma_vertical edges_between horizontal_strength
    luma_horizontal luma_macroblock luma_vertical strengths vertical_strength chroma_filtered edges_of luma_filtered picture_filtered filter_qp
    is_alike is_coded rule_at strength line intra_block.block down_left down_right horizontal horizontal_down horizontal_up vertical vertical_left
    vertical_right chroma_beside chroma_means mean mean_of_sides line_there neighbours16 neighbours4 neighbours8 neighbours_chroma edge4 edge8
    from_edge predicted16 predicted_chroma plane_at slope tilt smoothed macroblock with_chroma_ac with_chroma_dc with_chroma_mode with_chroma_pattern with_inter_transform
    with_luma with_luma_dc with_luma_pattern with_modes with_qp with_transform with_type mode predicted4 predicted8 last_has_delta last_qp near_in
    parts decode_by joined shown made lists_of slid common slice_step step with_slice pictures_decode.steps cropping idr_slice picture sequence fixed se signed_at u_behind
    ue_behind reading_reader.flag listed inverse4_of inverse8_of chroma_dc_rescaled luma_dc_rescaled rescaled scaling decoded decoded_from slice_data
    read_data modes_allowed all_allowed read_layer placed read_set pcm_macroblock pcm_macroblocks read_pcm_slice cropped_plane above_one equal_one levels significance
    some_levels syntax_blocks.block chroma_mode chroma_pattern intra_type luma_pattern mode_rem qp_delta coded_at first_at last_at minus1 others_at
    significant_at golomb number ones syntax_syntax.flag other_slice modification nearer_first nearest_first colocated_at skip_motion inc_skip predicted_by
    luma_predicted chroma_predicted inter4 inter_luma_built chroma_over inter_built inter_luma inter_chroma firsts seconds sample_at
rows = (refl, refl, refl)
