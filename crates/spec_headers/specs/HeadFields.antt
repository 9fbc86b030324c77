-- The fields of parameter sets and slice headers, in the order of the syntax tables.
use Rattle.std.specs.Prelude.{ℕ, ◌-◌, ◌*◌, ◌/◌, ◌==◌, ◌&&◌, Bool, true, false, List, [], ◌∷◌, ◌++◌, length, Option, Some, None, pos, ◌-ℤ◌, replicate, if◌then◌else◌}
use Rattle.spec_basics.specs.Sizes.{in_macroblocks}
use Rattle.spec_bits.specs.declared.fields.Field.{Field}
use Rattle.spec_bits.specs.declared.fields.Field.TheVariants.{U, Ue, Se}
use Rattle.spec_headers.specs.declared.heads.SeqHead.{SeqHead}
use Rattle.spec_headers.specs.declared.heads.Timing.{Timing}
use Rattle.spec_headers.specs.declared.heads.SliceHead.{SliceHead}
use Rattle.spec_headers.specs.Heads.{kind_number}
use Rattle.enc_tables.specs.declared.records.SliceKind.{SliceKind}
use Rattle.enc_tables.specs.declared.records.SliceKind.TheVariants.{I, P, B}
use Rattle.spec_bits.specs.Bits.{digit, bytes_of_bits}
use Rattle.spec_bits.specs.Golomb.{trail_bits, to_byte}
use Rattle.spec_bits.specs.Fields.{fields_bits}

-- one bit
abbrev pub flag : Bool → Field
flag b = U 1 (digit b)

-- how many samples are added to a side so that macroblocks cover it
abbrev pub padding : ℕ → ℕ
padding samples = 16 * in_macroblocks samples - samples

-- frame_cropping_flag, and where it is set the offsets left, right, top and bottom in units of two samples (clause 7.3.2.1.1)
unfoldable pub cropping_fields : ℕ → ℕ → List Field
cropping_fields width height =
    if (padding width == 0) && (padding height == 0) then
    flag false ∷ []  -- frame_cropping_flag
    else
    flag true  -- frame_cropping_flag
    ∷ Ue 0  -- frame_crop_left_offset
    ∷ Ue (padding width / 2)  -- frame_crop_right_offset
    ∷ Ue 0  -- frame_crop_top_offset
    ∷ Ue (padding height / 2)  -- frame_crop_bottom_offset
    ∷ []

-- nal_hrd_parameters (clause E.1.2) of one constant-rate buffer
unfoldable pub buffer_fields : Timing → List Field
buffer_fields t =
    Ue 0  -- cpb_cnt_minus1
    ∷ U 4 0  -- bit_rate_scale
    ∷ U 4 0  -- cpb_size_scale
    ∷ Ue (t.rate / 64 - 1)  -- bit_rate_value_minus1
    ∷ Ue (t.cpb / 16 - 1)  -- cpb_size_value_minus1
    ∷ flag true  -- cbr_flag
    ∷ U 5 31  -- initial_cpb_removal_delay_length_minus1
    ∷ U 5 23  -- cpb_removal_delay_length_minus1
    ∷ U 5 23  -- dpb_output_delay_length_minus1
    ∷ U 5 0  -- time_offset_length
    ∷ []

-- vui_parameters_present_flag, and where it is set vui_parameters (clause E.1.1)
unfoldable pub usability_fields : ℕ → Option Timing → List Field
usability_fields refs None =
    flag false ∷ []  -- vui_parameters_present_flag
usability_fields refs (Some t) =
    flag true  -- vui_parameters_present_flag
    ∷ flag false  -- aspect_ratio_info_present_flag
    ∷ flag false  -- overscan_info_present_flag
    ∷ flag false  -- video_signal_type_present_flag
    ∷ flag false  -- chroma_loc_info_present_flag
    ∷ flag true  -- timing_info_present_flag
    ∷ U 32 t.den  -- num_units_in_tick
    ∷ U 32 (2 * t.num)  -- time_scale
    ∷ flag true  -- fixed_frame_rate_flag
    ∷ flag true  -- nal_hrd_parameters_present_flag
    ∷ (buffer_fields t  -- nal_hrd_parameters
    ++ (flag false  -- vcl_hrd_parameters_present_flag
    ∷ flag false  -- low_delay_hrd_flag
    ∷ flag false  -- pic_struct_present_flag
    ∷ flag true  -- bitstream_restriction_flag
    ∷ flag true  -- motion_vectors_over_pic_boundaries_flag
    ∷ Ue 0  -- max_bytes_per_pic_denom
    ∷ Ue 0  -- max_bits_per_mb_denom
    ∷ Ue 8  -- log2_max_mv_length_horizontal
    ∷ Ue 8  -- log2_max_mv_length_vertical
    ∷ Ue (digit t.reorder)  -- max_num_reorder_frames
    ∷ Ue refs  -- max_dec_frame_buffering
    ∷ []))

-- seq_parameter_set_data (clause 7.3.2.1.1) of High profile, up to direct_8x8_inference_flag
unfoldable pub format_fields : SeqHead → List Field
format_fields h =
    U 8 100  -- profile_idc
    ∷ U 8 0  -- constraint_set0_flag to constraint_set5_flag, reserved_zero_2bits
    ∷ U 8 h.level  -- level_idc
    ∷ Ue 0  -- seq_parameter_set_id
    ∷ Ue 1  -- chroma_format_idc
    ∷ Ue 0  -- bit_depth_luma_minus8
    ∷ Ue 0  -- bit_depth_chroma_minus8
    ∷ flag false  -- qpprime_y_zero_transform_bypass_flag
    ∷ flag false  -- seq_scaling_matrix_present_flag
    ∷ Ue 12  -- log2_max_frame_num_minus4
    ∷ Ue 0  -- pic_order_cnt_type
    ∷ Ue 12  -- log2_max_pic_order_cnt_lsb_minus4
    ∷ Ue h.refs  -- max_num_ref_frames
    ∷ flag false  -- gaps_in_frame_num_value_allowed_flag
    ∷ Ue (in_macroblocks h.width - 1)  -- pic_width_in_mbs_minus1
    ∷ Ue (in_macroblocks h.height - 1)  -- pic_height_in_map_units_minus1
    ∷ flag true  -- frame_mbs_only_flag
    ∷ flag true  -- direct_8x8_inference_flag
    ∷ []

-- seq_parameter_set_data
unfoldable pub sequence_fields : SeqHead → List Field
sequence_fields h = format_fields h ++ (cropping_fields h.width h.height ++ usability_fields h.refs h.timing)

-- pic_parameter_set_rbsp (clause 7.3.2.2), by entropy_coding_mode_flag and transform_8x8_mode_flag
unfoldable pub picture_fields : Bool → Bool → List Field
picture_fields entropy transform8 =
    Ue 0  -- pic_parameter_set_id
    ∷ Ue 0  -- seq_parameter_set_id
    ∷ flag entropy  -- entropy_coding_mode_flag
    ∷ flag false  -- bottom_field_pic_order_in_frame_present_flag
    ∷ Ue 0  -- num_slice_groups_minus1
    ∷ Ue 0  -- num_ref_idx_l0_default_active_minus1
    ∷ Ue 0  -- num_ref_idx_l1_default_active_minus1
    ∷ flag false  -- weighted_pred_flag
    ∷ U 2 0  -- weighted_bipred_idc
    ∷ Se (pos 0)  -- pic_init_qp_minus26
    ∷ Se (pos 0)  -- pic_init_qs_minus26
    ∷ Se (pos 0)  -- chroma_qp_index_offset
    ∷ flag false  -- deblocking_filter_control_present_flag
    ∷ flag false  -- constrained_intra_pred_flag
    ∷ flag false  -- redundant_pic_cnt_present_flag
    ∷ flag transform8  -- transform_8x8_mode_flag
    ∷ flag false  -- pic_scaling_matrix_present_flag
    ∷ Se (pos 0)  -- second_chroma_qp_index_offset
    ∷ []

-- ref_pic_list_modification of list 0 (clause 7.3.3.1): the picture whose number is this much and one lower comes first
abbrev pub moved_fields : Option ℕ → List Field
moved_fields None =
    flag false ∷ []  -- ref_pic_list_modification_flag_l0
moved_fields (Some difference) =
    flag true  -- ref_pic_list_modification_flag_l0
    ∷ Ue 0  -- modification_of_pic_nums_idc
    ∷ Ue difference  -- abs_diff_pic_num_minus1
    ∷ Ue 3  -- modification_of_pic_nums_idc
    ∷ []

-- how references are listed, and the changes of the lists (clauses 7.3.3 and 7.3.3.1)
unfoldable pub list_fields : SliceKind → ℕ → ℕ → Option ℕ → List Field
list_fields I refs0 refs1 moved = []
list_fields P refs0 refs1 moved =
    flag true  -- num_ref_idx_active_override_flag
    ∷ Ue (refs0 - 1)  -- num_ref_idx_l0_active_minus1
    ∷ moved_fields moved
list_fields B refs0 refs1 moved =
    flag true  -- direct_spatial_mv_pred_flag
    ∷ flag true  -- num_ref_idx_active_override_flag
    ∷ Ue (refs0 - 1)  -- num_ref_idx_l0_active_minus1
    ∷ Ue (refs1 - 1)  -- num_ref_idx_l1_active_minus1
    ∷ (moved_fields moved
    ++ (flag false ∷ []))  -- ref_pic_list_modification_flag_l1

-- dec_ref_pic_marking (clause 7.3.3.3), which only pictures that others refer to have: B pictures are none
unfoldable pub marking_fields : Bool → SliceKind → List Field
marking_fields true kind =
    flag false  -- no_output_of_prior_pics_flag
    ∷ flag false  -- long_term_reference_flag
    ∷ []
marking_fields false I =
    flag false ∷ []  -- adaptive_ref_pic_marking_mode_flag
marking_fields false P =
    flag false ∷ []  -- adaptive_ref_pic_marking_mode_flag
marking_fields false B = []

-- where the arithmetic coder follows, of P and B slices
unfoldable pub init_fields : Bool → SliceKind → List Field
init_fields false kind = []
init_fields true I = []
init_fields true P =
    Ue 0 ∷ []  -- cabac_init_idc
init_fields true B =
    Ue 0 ∷ []  -- cabac_init_idc

-- where a slice stands
unfoldable pub place_fields : SliceHead → List Field
place_fields h =
    Ue h.first_mb  -- first_mb_in_slice
    ∷ Ue (kind_number h.kind)  -- slice_type
    ∷ Ue 0  -- pic_parameter_set_id
    ∷ U 16 h.frame_num  -- frame_num
    ∷ ((if h.idr then Ue h.idr_id ∷ [] else [])  -- idr_pic_id
    ++ (U 16 h.poc ∷ []))  -- pic_order_cnt_lsb

-- slice_qp_delta, against the 26 of the picture parameter set
abbrev pub qp_field : ℕ → Field
qp_field qp = Se (pos qp -ℤ pos 26)

-- slice_header (clause 7.3.3)
unfoldable pub slice_fields : SliceHead → List Field
slice_fields h = place_fields h ++ (list_fields h.kind h.refs0 h.refs1 h.moved ++ (marking_fields h.idr h.kind ++ (init_fields h.cabac h.kind ++ (qp_field h.qp ∷ []))))

-- the bits that begin a slice: its header, and where the arithmetic coder follows, ones to the byte (cabac_alignment_one_bit, clause 7.3.4)
unfoldable pub slice_head_bits : SliceHead → List Bool
slice_head_bits h =
    let bits = fields_bits (slice_fields h) in
    if h.cabac then bits ++ replicate (to_byte (length bits)) true else bits

-- the bytes of fields and the trailing bits behind them
abbrev pub payload_of : List Field → List ℕ
payload_of fields = let bits = fields_bits fields in bytes_of_bits (bits ++ trail_bits (length bits))

unfoldable pub sequence_payload : SeqHead → List ℕ
sequence_payload h = payload_of (sequence_fields h)

unfoldable pub picture_payload : Bool → Bool → List ℕ
picture_payload entropy transform8 = payload_of (picture_fields entropy transform8)
