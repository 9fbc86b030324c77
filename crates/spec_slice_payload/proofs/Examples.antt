-- A worked slice: a grey picture of one macroblock.
use Rattle.std.proofs.Common.{◌≡◌, true, false, ℕ, [], ◌∷◌, refl, replicate, Option, None, Some, pos, negsuc}
use Rattle.enc_tables.specs.declared.records.SliceKind.{SliceKind}
use Rattle.enc_tables.specs.declared.records.Motion.{Motion}
use Rattle.spec_headers.specs.declared.heads.SliceHead.{SliceHead}
use Rattle.std.specs.Int.Count.{count_leading_zeros}
use Rattle.enc_tables.specs.declared.records.MbKind.{MbKind}
use Rattle.enc_tables.specs.Arithmetic.{lps_range, after_lps}
use Rattle.enc_tables.specs.Records.{blank_record, zero_vector}
use Rattle.spec_bits.specs.Bits.{digits, bytes_of_bits}
use Rattle.spec_bits.specs.Golomb.{ue_bits, se_bits, align_bits}
use Rattle.spec_bits.specs.Fields.{fields_bits}
use Rattle.spec_headers.specs.HeadFields.{slice_fields, place_fields, list_fields, marking_fields, init_fields, slice_head_bits}
use Rattle.spec_cabac.specs.Code.{step, renormalised}
use Rattle.spec_contexts.specs.States.{start_states, start_state, pre_state}
use Rattle.spec_contexts.specs.Increments.{inc_skip, inc_type_i, inc_chroma_mode, inc_coded}
use Rattle.spec_syntax.specs.Elements.{intra_type_string, chroma_mode_string, qp_delta_string}
use Rattle.spec_syntax.specs.Levels.{coded_at}
use Rattle.spec_syntax.specs.Blocks.{block_string, none}
use Rattle.spec_syntax.specs.Syntax.{flag_string}
use Rattle.spec_syntax.specs.Sequences.{sequence_string}
use Rattle.spec_partitions.specs.Near.{near_in, last_qp, last_has_delta}
use Rattle.spec_partitions.specs.Parts.{parts_string}
use Rattle.spec_macroblock.specs.Strings.{macroblock_string, head_string, inter_transform_string, mb_type_string, transform_string, modes_string, intra_chroma_string, luma_cbp_string, chroma_cbp_string, qp_string, luma_dc_string, luma_string, chroma_dc_string, chroma_ac_string}
use Rattle.spec_headers.specs.HeadReaders.{idr_slice}
use Rattle.spec_headers.specs.Heads.{idr_head}
use Rattle.spec_slice_data.specs.Coding.{asked, slice_string, strings_of}
use Rattle.spec_bits.specs.Bits.{bits_of_bytes}
use Rattle.spec_cabac.specs.Decoder.{decide, refill, take_bits}
use Rattle.spec_reading.specs.Reader.{fixed, se, signed_at, u_behind, ue_behind, flag as head_flag}
use Rattle.spec_lists.specs.Lists.{lists_of}
use Rattle.spec_slice_data.specs.Decoding.{decoded, decoded_from}
use Rattle.spec_slice_data.specs.Slice.{slice_data}
use Rattle.spec_syntax.specs.Elements.{intra_type, chroma_mode, chroma_pattern, luma_pattern, qp_delta}
use Rattle.spec_syntax.specs.Blocks.{block, levels, significance, some_levels, above_one, equal_one}
use Rattle.spec_syntax.specs.Syntax.{flag}
use Rattle.spec_syntax.specs.Numbers.{number, golomb, ones}
use Rattle.spec_syntax.specs.Levels.{first_at, last_at, minus1, others_at, significant_at}
use Rattle.spec_partitions.specs.Parts.{parts}
use Rattle.spec_macroblock.specs.Macroblock.{macroblock, with_type, with_transform, with_modes, with_chroma_mode, with_chroma_pattern, with_inter_transform, with_luma_pattern, with_qp, with_luma_dc, with_luma, with_chroma_dc, with_chroma_ac}
use Rattle.spec_slice_payload.specs.Allowed.{modes_allowed, all_allowed}
use Rattle.spec_slice_payload.specs.Layer.{Format, Slice}
use Rattle.spec_slice_payload.specs.Reading.{read_layer, read_data}
use Rattle.spec_slice_payload.specs.Writing.{layer_bits, layer_payload}

-- of QP 24, Intra 16x16 by the mean, without levels
row_grey : layer_payload (record { across = 1; total = 1; t8x8 = true })
    (record { head = idr_head 0 0 0 0 24 true; records = record (blank_record MbKind.Intra16 24) { modes = 2 ∷ replicate 15 0 } ∷ [] })
    ≡ 136 ∷ 128 ∷ 0 ∷ 64 ∷ 0 ∷ 2 ∷ 255 ∷ 254 ∷ 214 ∷ 223 ∷ 128 ∷ []
unfolding layer_payload layer_bits slice_head_bits align_bits fields_bits slice_fields place_fields list_fields marking_fields init_fields idr_head digits bytes_of_bits ue_bits se_bits count_leading_zeros
    start_states start_state pre_state asked slice_string strings_of sequence_string near_in last_qp last_has_delta step renormalised lps_range after_lps
    macroblock_string head_string inter_transform_string mb_type_string transform_string modes_string intra_chroma_string luma_cbp_string chroma_cbp_string qp_string luma_dc_string luma_string chroma_dc_string chroma_ac_string parts_string
    blank_record inc_type_i inc_chroma_mode inc_coded intra_type_string chroma_mode_string qp_delta_string block_string coded_at none
row_grey = refl

-- a P slice of one macroblock, which is skipped
abbrev p_head : SliceHead
p_head = record { first_mb = 0; kind = SliceKind.P; idr = false; frame_num = 1; idr_id = 0; poc = 2; refs0 = 1; refs1 = 0; moved = None; qp = 26; cabac = true }

abbrev still : Motion
still = record { refs = pos 0 ∷ negsuc 0 ∷ []; vectors = zero_vector ∷ zero_vector ∷ [] }

row_skipped : layer_payload (record { across = 1; total = 1; t8x8 = true })
    (record { head = p_head; records = record (blank_record MbKind.PSkip 26) { motion = still ∷ still ∷ still ∷ still ∷ [] } ∷ [] })
    ≡ 154 ∷ 0 ∷ 2 ∷ 0 ∷ 5 ∷ 159 ∷ 166 ∷ 128 ∷ []
unfolding layer_payload layer_bits slice_head_bits align_bits fields_bits slice_fields place_fields list_fields marking_fields init_fields idr_head digits bytes_of_bits ue_bits se_bits count_leading_zeros
    start_states start_state pre_state asked slice_string strings_of sequence_string near_in last_qp last_has_delta step renormalised lps_range after_lps
    macroblock_string head_string inter_transform_string mb_type_string transform_string modes_string intra_chroma_string luma_cbp_string chroma_cbp_string qp_string luma_dc_string luma_string chroma_dc_string chroma_ac_string parts_string
    flag_string blank_record inc_skip inc_type_i inc_chroma_mode inc_coded intra_type_string chroma_mode_string qp_delta_string block_string coded_at none
row_skipped = refl

-- ---- what isn't read

-- A macroblock that is alone in its picture has nothing above it. Predicted from there it isn't read; by the mean it is.
abbrev of_mode : ℕ → Slice
of_mode mode = record { head = idr_head 0 0 0 0 24 true; records = record (blank_record MbKind.Intra16 24) { modes = mode ∷ replicate 15 0 } ∷ [] }

abbrev read_alone : ℕ → Option Slice
read_alone mode = let f : Format = record { across = 1; total = 1; t8x8 = true } in read_layer f true [] (layer_payload f (of_mode mode))

row_refused : (read_alone 0 ≡ None) × (read_alone 2 ≡ Some (of_mode 2))
unfolding layer_payload layer_bits slice_head_bits align_bits fields_bits slice_fields place_fields list_fields marking_fields init_fields idr_head digits bytes_of_bits ue_bits se_bits count_leading_zeros
    start_states start_state pre_state asked slice_string strings_of sequence_string near_in last_qp last_has_delta step renormalised lps_range after_lps
    macroblock_string head_string inter_transform_string mb_type_string transform_string modes_string intra_chroma_string luma_cbp_string chroma_cbp_string qp_string luma_dc_string luma_string chroma_dc_string chroma_ac_string parts_string
    blank_record inc_type_i inc_chroma_mode inc_coded intra_type_string chroma_mode_string qp_delta_string block_string coded_at none
    bits_of_bytes read_layer read_data modes_allowed all_allowed lists_of idr_slice fixed se signed_at u_behind ue_behind head_flag decoded decoded_from slice_data decide refill take_bits
    macroblock with_type with_transform with_modes with_chroma_mode with_chroma_pattern with_inter_transform with_luma_pattern with_qp with_luma_dc with_luma with_chroma_dc with_chroma_ac parts
    intra_type chroma_mode chroma_pattern luma_pattern qp_delta block flag number golomb ones levels significance some_levels above_one equal_one first_at last_at minus1 others_at significant_at
row_refused = (refl, refl)
