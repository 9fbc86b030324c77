-- The heads of a stream, read in the order of the syntax tables (ITU-T H.264, clauses 7.3.2, 7.3.3, E.1.1 and E.1.2).
-- A value that such a stream doesn't have there gives nothing.
use Rattle.std.specs.Prelude.{ℕ, ◌+◌, ◌-◌, ◌*◌, ◌&&◌, nat_le, nat_eq, if◌then◌else◌, Bool, true, false, Option, Some, None, ℤ, pos, negsuc, ◌+ℤ◌, nat_lt, ◌%◌, ◌/◌, ◌==◌}
use Rattle.spec_headers.specs.declared.heads.SeqHead.{SeqHead}
use Rattle.spec_headers.specs.declared.heads.Timing.{Timing}
use Rattle.spec_headers.specs.declared.heads.SliceHead.{SliceHead}
use Rattle.enc_tables.specs.declared.records.SliceKind.{SliceKind}
use Rattle.enc_tables.specs.declared.records.SliceKind.TheVariants.{I, P, B}
use Rattle.spec_reading.specs.Reader.{Reader, done, nothing, ◌>>=◌, u, ue, se, only, fixed, flag}

-- how many samples are cropped at the right and at the bottom
abbrev pub cropping_by : Bool → Reader (ℕ × ℕ)
cropping_by false = done (0, 0)
cropping_by true =
    fixed ue 0 >>= λ _.  -- frame_crop_left_offset
    ue >>= λ right.  -- frame_crop_right_offset
    fixed ue 0 >>= λ _.  -- frame_crop_top_offset
    ue >>= λ bottom.  -- frame_crop_bottom_offset
    only (nat_le right 7 && nat_le bottom 7 && nat_le 1 (right + bottom)) >>= λ _.
    done (2 * right, 2 * bottom)

unfoldable pub cropping : Reader (ℕ × ℕ)
cropping = flag >>= λ set. cropping_by set

-- nal_hrd_parameters (clause E.1.2) of one buffer at a constant rate: bits a second, and bits of the buffer
abbrev pub nal_hrd : Reader (ℕ × ℕ)
nal_hrd =
    fixed ue 0 >>= λ _.  -- cpb_cnt_minus1
    fixed (u 4) 0 >>= λ _.  -- bit_rate_scale
    fixed (u 4) 0 >>= λ _.  -- cpb_size_scale
    ue >>= λ rate.  -- bit_rate_value_minus1: 32 bits hold the rate
    only (nat_lt (64 * (rate + 1)) 4294967296) >>= λ _.
    ue >>= λ size.  -- cpb_size_value_minus1: 32 bits hold the size
    only (nat_lt (16 * (size + 1)) 4294967296) >>= λ _.
    fixed (u 1) 1 >>= λ _.  -- cbr_flag
    fixed (u 5) 31 >>= λ _.  -- initial_cpb_removal_delay_length_minus1
    fixed (u 5) 23 >>= λ _.  -- cpb_removal_delay_length_minus1
    fixed (u 5) 23 >>= λ _.  -- dpb_output_delay_length_minus1
    fixed (u 5) 0 >>= λ _.  -- time_offset_length
    done (64 * (rate + 1), 16 * (size + 1))

-- num_units_in_tick and time_scale: the clock doesn't stand still, and a picture lasts two ticks (clause E.2.1); pictures, and seconds for them
abbrev pub clock : Reader (ℕ × ℕ)
clock =
    u 32 >>= λ ticks.  -- num_units_in_tick
    only (nat_lt 0 ticks) >>= λ _.
    u 32 >>= λ scale.  -- time_scale
    only (nat_lt 0 scale && (scale % 2 == 0)) >>= λ _.
    done (scale / 2, ticks)

-- bitstream_restriction (clause E.1.1), by max_num_ref_frames: whether pictures are shown in another order than they are coded
abbrev pub restriction : ℕ → Reader Bool
restriction refs =
    fixed (u 1) 1 >>= λ _.  -- bitstream_restriction_flag
    fixed (u 1) 1 >>= λ _.  -- motion_vectors_over_pic_boundaries_flag
    fixed ue 0 >>= λ _.  -- max_bytes_per_pic_denom
    fixed ue 0 >>= λ _.  -- max_bits_per_mb_denom
    fixed ue 8 >>= λ _.  -- log2_max_mv_length_horizontal
    fixed ue 8 >>= λ _.  -- log2_max_mv_length_vertical
    ue >>= λ depth.  -- max_num_reorder_frames
    only (nat_le depth 1) >>= λ _.
    fixed ue refs >>= λ _.  -- max_dec_frame_buffering
    done (depth == 1)

-- vui_parameters (clause E.1.1)
abbrev pub usability_by : ℕ → Bool → Reader (Option Timing)
usability_by refs false = done None
usability_by refs true =
    fixed (u 1) 0 >>= λ _.  -- aspect_ratio_info_present_flag
    fixed (u 1) 0 >>= λ _.  -- overscan_info_present_flag
    fixed (u 1) 0 >>= λ _.  -- video_signal_type_present_flag
    fixed (u 1) 0 >>= λ _.  -- chroma_loc_info_present_flag
    fixed (u 1) 1 >>= λ _.  -- timing_info_present_flag
    clock >>= λ pace.  -- num_units_in_tick, time_scale
    fixed (u 1) 1 >>= λ _.  -- fixed_frame_rate_flag
    fixed (u 1) 1 >>= λ _.  -- nal_hrd_parameters_present_flag
    nal_hrd >>= λ held.  -- nal_hrd_parameters
    fixed (u 1) 0 >>= λ _.  -- vcl_hrd_parameters_present_flag
    fixed (u 1) 0 >>= λ _.  -- low_delay_hrd_flag
    fixed (u 1) 0 >>= λ _.  -- pic_struct_present_flag
    restriction refs >>= λ reorder.  -- bitstream_restriction_flag and what it tells of
    done (Some (record { num = pace.0; den = pace.1; rate = held.0; cpb = held.1; reorder = reorder }))

-- vui_parameters_present_flag and what it tells of
abbrev pub usability : ℕ → Reader (Option Timing)
usability refs = flag >>= usability_by refs

-- seq_parameter_set_data (clause 7.3.2.1.1)
unfoldable pub sequence : Reader SeqHead
sequence =
    fixed (u 8) 100 >>= λ _.  -- profile_idc
    fixed (u 8) 0 >>= λ _.  -- constraint_set0_flag to constraint_set5_flag, reserved_zero_2bits
    u 8 >>= λ level.  -- level_idc
    fixed ue 0 >>= λ _.  -- seq_parameter_set_id
    fixed ue 1 >>= λ _.  -- chroma_format_idc
    fixed ue 0 >>= λ _.  -- bit_depth_luma_minus8
    fixed ue 0 >>= λ _.  -- bit_depth_chroma_minus8
    fixed (u 1) 0 >>= λ _.  -- qpprime_y_zero_transform_bypass_flag
    fixed (u 1) 0 >>= λ _.  -- seq_scaling_matrix_present_flag
    fixed ue 12 >>= λ _.  -- log2_max_frame_num_minus4
    fixed ue 0 >>= λ _.  -- pic_order_cnt_type
    fixed ue 12 >>= λ _.  -- log2_max_pic_order_cnt_lsb_minus4
    ue >>= λ refs.  -- max_num_ref_frames
    only (nat_le 1 refs && nat_le refs 4) >>= λ _.
    fixed (u 1) 0 >>= λ _.  -- gaps_in_frame_num_value_allowed_flag
    ue >>= λ wide.  -- pic_width_in_mbs_minus1
    only (nat_le wide 255) >>= λ _.
    ue >>= λ high.  -- pic_height_in_map_units_minus1
    only (nat_le high 143) >>= λ _.
    fixed (u 1) 1 >>= λ _.  -- frame_mbs_only_flag
    fixed (u 1) 1 >>= λ _.  -- direct_8x8_inference_flag
    cropping >>= λ crop.  -- frame_cropping_flag and its offsets: 16 columns and rows are left at least
    only (nat_le 16 (16 * (wide + 1) - crop.0) && nat_le 16 (16 * (high + 1) - crop.1)) >>= λ _.
    usability refs >>= λ timing.  -- vui_parameters_present_flag and what it tells of
    done (record { width = 16 * (wide + 1) - crop.0; height = 16 * (high + 1) - crop.1; level = level; refs = refs; timing = timing })

-- pic_parameter_set_rbsp (clause 7.3.2.2): entropy_coding_mode_flag and transform_8x8_mode_flag
unfoldable pub picture : Reader (Bool × Bool)
picture =
    fixed ue 0 >>= λ _.  -- pic_parameter_set_id
    fixed ue 0 >>= λ _.  -- seq_parameter_set_id
    flag >>= λ entropy.  -- entropy_coding_mode_flag
    fixed (u 1) 0 >>= λ _.  -- bottom_field_pic_order_in_frame_present_flag
    fixed ue 0 >>= λ _.  -- num_slice_groups_minus1
    fixed ue 0 >>= λ _.  -- num_ref_idx_l0_default_active_minus1
    fixed ue 0 >>= λ _.  -- num_ref_idx_l1_default_active_minus1
    fixed (u 1) 0 >>= λ _.  -- weighted_pred_flag
    fixed (u 2) 0 >>= λ _.  -- weighted_bipred_idc
    fixed ue 0 >>= λ _.  -- pic_init_qp_minus26: the code of the signed number 0 is that of place 0
    fixed ue 0 >>= λ _.  -- pic_init_qs_minus26
    fixed ue 0 >>= λ _.  -- chroma_qp_index_offset
    fixed (u 1) 0 >>= λ _.  -- deblocking_filter_control_present_flag
    fixed (u 1) 0 >>= λ _.  -- constrained_intra_pred_flag
    fixed (u 1) 0 >>= λ _.  -- redundant_pic_cnt_present_flag
    flag >>= λ transform8.  -- transform_8x8_mode_flag
    fixed (u 1) 0 >>= λ _.  -- pic_scaling_matrix_present_flag
    fixed ue 0 >>= λ _.  -- second_chroma_qp_index_offset
    done (entropy, transform8)

-- a luma quantisation parameter, 0 to 51
abbrev pub quantiser : ℤ → Reader ℕ
quantiser (pos qp) = only (nat_le qp 51) >>= λ _. done qp
quantiser (negsuc n) = nothing

-- slice_header (clause 7.3.3) of a slice of an IDR picture; cabac: entropy_coding_mode_flag
unfoldable pub idr_slice : Bool → Reader SliceHead
idr_slice cabac =
    ue >>= λ first_mb.  -- first_mb_in_slice
    fixed ue 7 >>= λ _.  -- slice_type
    fixed ue 0 >>= λ _.  -- pic_parameter_set_id
    u 16 >>= λ frame_num.  -- frame_num
    ue >>= λ idr_id.  -- idr_pic_id
    only (nat_le idr_id 1) >>= λ _.
    u 16 >>= λ poc.  -- pic_order_cnt_lsb
    fixed (u 1) 0 >>= λ _.  -- no_output_of_prior_pics_flag
    fixed (u 1) 0 >>= λ _.  -- long_term_reference_flag
    se >>= λ delta.  -- slice_qp_delta
    quantiser (pos 26 +ℤ delta) >>= λ qp.  -- the slice's QP (SliceQPY)
    done (record { first_mb = first_mb; kind = I; idr = true; frame_num = frame_num; idr_id = idr_id; poc = poc; refs0 = 0; refs1 = 0; moved = None; qp = qp; cabac = cabac })

-- slice_type 5 and 6: all slices of the picture are P slices, or B slices (table 7-6)
abbrev pub inter_kind : ℕ → Reader SliceKind
inter_kind kind = if nat_eq kind 5 then done P else (only (nat_eq kind 6) >>= λ _. done B)

-- a count of entries less 1, up to four of them
abbrev pub entries : Reader ℕ
entries = ue >>= λ n. only (nat_le n 3) >>= λ _. done (n + 1)

-- ref_pic_list_modification of list 0 (clause 7.3.3.1): none, or one command that moves a picture to the front, by its number
abbrev pub modification_by : Bool → Reader (Option ℕ)
modification_by false = done None
modification_by true =
    fixed ue 0 >>= λ _.  -- modification_of_pic_nums_idc
    ue >>= λ difference.  -- abs_diff_pic_num_minus1
    fixed ue 3 >>= λ _.  -- modification_of_pic_nums_idc
    done (Some difference)

unfoldable pub modification : Reader (Option ℕ)
modification = flag >>= modification_by

pub record ListFields : Type 0 where
  pub refs0 : ℕ
  pub refs1 : ℕ
  pub moved : Option ℕ

-- num_ref_idx_active_override_flag and the counts, and the changes of the lists; for B behind direct_spatial_mv_pred_flag
abbrev pub list_fields_by : SliceKind → Reader ListFields
list_fields_by I = nothing
list_fields_by P =
    fixed (u 1) 1 >>= λ _.  -- num_ref_idx_active_override_flag
    entries >>= λ refs0.  -- num_ref_idx_l0_active_minus1
    modification >>= λ moved.  -- ref_pic_list_modification_flag_l0 and what it tells of
    done (record { refs0 = refs0; refs1 = 0; moved = moved })
list_fields_by B =
    fixed (u 1) 1 >>= λ _.  -- direct_spatial_mv_pred_flag
    fixed (u 1) 1 >>= λ _.  -- num_ref_idx_active_override_flag
    entries >>= λ refs0.  -- num_ref_idx_l0_active_minus1
    entries >>= λ refs1.  -- num_ref_idx_l1_active_minus1
    modification >>= λ moved.  -- ref_pic_list_modification_flag_l0 and what it tells of
    fixed (u 1) 0 >>= λ _.  -- ref_pic_list_modification_flag_l1
    done (record { refs0 = refs0; refs1 = refs1; moved = moved })

-- adaptive_ref_pic_marking_mode_flag, which only references have
abbrev pub marking_by : SliceKind → Reader (Unit {0})
marking_by I = nothing
marking_by P = fixed (u 1) 0 >>= λ _. done tt
marking_by B = done tt

-- cabac_init_idc
abbrev pub init_by : Bool → Reader (Unit {0})
init_by true = fixed ue 0 >>= λ _. done tt
init_by false = done tt

-- slice_header (clause 7.3.3) of a P or B slice of a picture that isn't an IDR picture
unfoldable pub other_slice : Bool → Reader SliceHead
other_slice cabac =
    ue >>= λ first_mb.  -- first_mb_in_slice
    ue >>= λ type.  -- slice_type
    inter_kind type >>= λ kind.  -- the slice's kind by it
    fixed ue 0 >>= λ _.  -- pic_parameter_set_id
    u 16 >>= λ frame_num.  -- frame_num
    u 16 >>= λ poc.  -- pic_order_cnt_lsb
    list_fields_by kind >>= λ lists.  -- num_ref_idx_active_override_flag to ref_pic_list_modification
    marking_by kind >>= λ _.  -- dec_ref_pic_marking
    init_by cabac >>= λ _.  -- cabac_init_idc
    se >>= λ delta.  -- slice_qp_delta
    quantiser (pos 26 +ℤ delta) >>= λ qp.  -- the slice's QP (SliceQPY)
    done (record { first_mb = first_mb; kind = kind; idr = false; frame_num = frame_num; idr_id = 0; poc = poc; refs0 = lists.refs0; refs1 = lists.refs1; moved = lists.moved; qp = qp; cabac = cabac })

-- by nal_unit_type: 5 where the picture is an IDR picture, else 1
abbrev pub slice_head : Bool → Bool → Reader SliceHead
slice_head true cabac = idr_slice cabac
slice_head false cabac = other_slice cabac
