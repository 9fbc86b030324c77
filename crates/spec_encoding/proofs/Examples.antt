-- A worked picture: grey, of one macroblock.
use Rattle.std.proofs.Common.{◌≡◌, true, [], ◌∷◌, refl, replicate}
use Rattle.std.specs.Int.Count.{count_leading_zeros}
use Rattle.enc_tables.specs.declared.records.MbKind.{MbKind}
use Rattle.enc_tables.specs.Arithmetic.{lps_range, after_lps}
use Rattle.enc_tables.specs.Records.{blank_record}
use Rattle.spec_bits.specs.Bits.{digits, bytes_of_bits}
use Rattle.spec_bits.specs.Golomb.{ue_bits, se_bits, align_bits, trail_bits}
use Rattle.spec_bits.specs.Fields.{fields_bits}
use Rattle.spec_headers.specs.HeadFields.{slice_fields, place_fields, list_fields, marking_fields, init_fields, slice_head_bits, sequence_payload, sequence_fields, format_fields, cropping_fields, usability_fields, picture_payload, picture_fields}
use Rattle.spec_bits.specs.Units.{unit_bytes, escape}
use Rattle.spec_cabac.specs.Code.{step, renormalised}
use Rattle.spec_contexts.specs.States.{start_states, start_state, pre_state}
use Rattle.spec_contexts.specs.Increments.{inc_type_i, inc_chroma_mode, inc_coded}
use Rattle.spec_syntax.specs.Elements.{intra_type_string, chroma_mode_string, qp_delta_string}
use Rattle.spec_syntax.specs.Levels.{coded_at}
use Rattle.spec_syntax.specs.Blocks.{block_string, none}
use Rattle.spec_syntax.specs.Sequences.{sequence_string}
use Rattle.spec_partitions.specs.Near.{near_in, last_qp, last_has_delta}
use Rattle.spec_partitions.specs.Parts.{parts_string}
use Rattle.spec_macroblock.specs.Strings.{macroblock_string, mb_type_string, head_string, transform_string, modes_string, intra_chroma_string, luma_cbp_string, chroma_cbp_string, inter_transform_string, qp_string, luma_dc_string, luma_string, chroma_dc_string, chroma_ac_string}
use Rattle.spec_headers.specs.Heads.{idr_head}
use Rattle.spec_slice_data.specs.Coding.{asked, slice_string, strings_of}
use Rattle.spec_slice_payload.specs.Writing.{layer_bits, layer_payload}
use Rattle.spec_pictures.specs.Coded.{picture_units}
use Rattle.spec_encoding.specs.Encoding.{sequence_of, with_payload}

-- of QP 24, Intra 16x16 by the mean, without levels, in one slice, where 8x8 transforms may be used
row_grey : picture_units (sequence_of (record { width = 16; height = 16; num = 25; den = 1 })) (true, true)
    (with_payload (record { across = 1; total = 1; t8x8 = true })
    (record { head = idr_head 0 0 0 0 24 true; records = record (blank_record MbKind.Intra16 24) { modes = 2 ∷ replicate 15 0 } ∷ [] }) ∷ [])
    ≡ 0 ∷ 0 ∷ 0 ∷ 1 ∷ 103 ∷ 100 ∷ 0 ∷ 51 ∷ 172 ∷ 27 ∷ 26 ∷ 158 ∷ 64
    ∷ 0 ∷ 0 ∷ 0 ∷ 1 ∷ 104 ∷ 238 ∷ 56 ∷ 176
    ∷ 0 ∷ 0 ∷ 1 ∷ 101 ∷ 136 ∷ 128 ∷ 0 ∷ 64 ∷ 0 ∷ 2 ∷ 255 ∷ 254 ∷ 214 ∷ 223 ∷ 128 ∷ []
unfolding picture_units unit_bytes escape sequence_payload sequence_fields format_fields cropping_fields usability_fields picture_payload picture_fields trail_bits
    layer_payload layer_bits slice_head_bits align_bits fields_bits slice_fields place_fields list_fields marking_fields init_fields idr_head digits bytes_of_bits ue_bits se_bits count_leading_zeros
    start_states start_state pre_state asked slice_string strings_of sequence_string near_in last_qp last_has_delta step renormalised lps_range after_lps
    macroblock_string mb_type_string head_string transform_string modes_string intra_chroma_string luma_cbp_string chroma_cbp_string inter_transform_string qp_string luma_dc_string luma_string chroma_dc_string chroma_ac_string parts_string
    blank_record inc_type_i inc_chroma_mode inc_coded intra_type_string chroma_mode_string qp_delta_string block_string coded_at none
row_grey = refl
