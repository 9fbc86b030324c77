-- The bins of a macroblock, from its whole record (ITU-T H.264, clauses 7.3.5, 7.3.5.1 and 7.3.5.3).
use Rattle.std.specs.Prelude.{ℕ, ◌+◌, ◌*◌, ◌/◌, ◌%◌, ◌==◌, true, false, not, ◌&&◌, List, [], ◌∷◌, ◌++◌, get_or, slice_range, ℤ, pos, ◌-ℤ◌}
use Rattle.enc_tables.specs.declared.records.MbRecord.{MbRecord}
use Rattle.enc_tables.specs.declared.records.SliceKind.{SliceKind}
use Rattle.enc_tables.specs.Kinds.{is_nxn, is_16x16, is_intra, is_skipped, has_motion}
use Rattle.enc_tables.specs.declared.records.MbKind.{MbKind}
use Rattle.spec_contexts.specs.Increments.{bit_of, inc_skip, inc_type_i, inc_type_b, inc_transform, inc_chroma_mode, inc_luma_cbp, inc_chroma_cbp, inc_qp_delta, inc_coded}
use Rattle.spec_syntax.specs.declared.Bin.{Bin}
use Rattle.spec_syntax.specs.Syntax.{flag_string}
use Rattle.spec_syntax.specs.Sequences.{string_where}
use Rattle.spec_syntax.specs.Elements.{chroma_mode_string, luma_pattern_string, inc_of, chroma_pattern_string, transform_flag, qp_delta_string}
use Rattle.spec_syntax.specs.Inter.{has_inter, skip_at, type_string}
use Rattle.spec_syntax.specs.Blocks.{block_string, some_levels_string}
use Rattle.spec_partitions.specs.Near.{Near, has_pattern, can_have_8x8, has_residual}
use Rattle.spec_partitions.specs.Inter.{is_four, sub_types_string, inter_string}
use Rattle.spec_partitions.specs.Parts.{parts_string}
use Rattle.spec_macroblock.specs.Modes.{predicted, mode_count, mode_string}

-- the increment of mb_type, which P slices don't use
abbrev pub inc_type : SliceKind → Near → ℕ
inc_type SliceKind.I near = inc_type_i near.left near.above
inc_type SliceKind.P near = 0
inc_type SliceKind.B near = inc_type_b near.left near.above

unfoldable pub mb_type_string : Near → MbRecord → List Bin
mb_type_string near mb = type_string near.kind (inc_type near.kind near) mb

-- behind the type come the partitions of inter macroblocks
abbrev pub partitions_string : MbKind → Near → MbRecord → List Bin
partitions_string kind near mb = string_where (is_four kind) (sub_types_string near.kind mb) ++ string_where (has_motion kind) (inter_string near mb)

-- mb_skip_flag, and where it is 0 the type
unfoldable pub head_string : Near → MbRecord → List Bin
head_string near mb =
    string_where (has_inter near.kind) (flag_string (skip_at near.kind (inc_skip near.left near.above)) (is_skipped mb.kind))
    ++ string_where (not (is_skipped mb.kind)) (mb_type_string near mb ++ partitions_string mb.kind near mb)

unfoldable pub transform_string : Near → MbRecord → List Bin
transform_string near mb = string_where (near.t8x8 && is_nxn mb.kind) (flag_string (transform_flag (inc_transform near.left near.above)) mb.transform8)

-- the mode of block b
abbrev pub mode_part_string : Near → MbRecord → ℕ → List Bin
mode_part_string near mb b = mode_string (predicted mb near.left near.above b) (get_or mb.modes b 0)

unfoldable pub modes_string : Near → MbRecord → List Bin
modes_string near mb = string_where (is_nxn mb.kind) (parts_string (mode_part_string near mb) (mode_count mb))

unfoldable pub intra_chroma_string : Near → MbRecord → List Bin
intra_chroma_string near mb = string_where (is_intra mb.kind) (chroma_mode_string (inc_chroma_mode near.left near.above) mb.chroma_mode)

-- the increments of the four luma bins of the pattern
abbrev pub luma_pattern_incs : Near → MbRecord → List ℕ
luma_pattern_incs near mb =
    inc_luma_cbp mb near.left near.above 0 ∷ inc_luma_cbp mb near.left near.above 1 ∷ inc_luma_cbp mb near.left near.above 2 ∷ inc_luma_cbp mb near.left near.above 3 ∷ []

unfoldable pub luma_cbp_string : Near → MbRecord → List Bin
luma_cbp_string near mb = string_where (has_pattern mb.kind) (luma_pattern_string (inc_of (luma_pattern_incs near mb)) mb.luma_cbp)

unfoldable pub chroma_cbp_string : Near → MbRecord → List Bin
chroma_cbp_string near mb =
    string_where (has_pattern mb.kind) (chroma_pattern_string (inc_chroma_cbp near.left near.above false) (inc_chroma_cbp near.left near.above true) mb.chroma_cbp)

unfoldable pub inter_transform_string : Near → MbRecord → List Bin
inter_transform_string near mb = string_where (near.t8x8 && can_have_8x8 mb) (flag_string (transform_flag (inc_transform near.left near.above)) mb.transform8)

-- mb_qp_delta
abbrev pub difference : ℕ → ℕ → ℤ
difference before qp = pos qp -ℤ pos before

unfoldable pub qp_string : Near → MbRecord → List Bin
qp_string near mb = string_where (has_residual mb) (qp_delta_string (inc_qp_delta near.last_delta) (difference near.qp mb.qp))

-- ---- the residual

unfoldable pub luma_dc_string : Near → MbRecord → List Bin
luma_dc_string near mb = string_where (is_16x16 mb.kind) (block_string 0 (inc_coded mb near.left near.above 0 0 0) 15 mb.luma_dc)

-- 4x4 block b
abbrev pub luma4_string : Near → MbRecord → ℕ → List Bin
luma4_string near mb b =
    string_where (bit_of mb.luma_cbp (b / 4)) (elim (is_16x16 mb.kind) [
      | true ↦ block_string 1 (inc_coded mb near.left near.above 1 0 b) 14 (slice_range mb.luma (16 * b + 1) (16 * b + 16))
      | false ↦ block_string 2 (inc_coded mb near.left near.above 2 0 b) 15 (slice_range mb.luma (16 * b) (16 * b + 16))
    ])

-- 8x8 block k
abbrev pub luma8_string : MbRecord → ℕ → List Bin
luma8_string mb k = string_where (bit_of mb.luma_cbp k) (some_levels_string 5 63 (slice_range mb.luma (64 * k) (64 * k + 64)))

unfoldable pub luma_string : Near → MbRecord → List Bin
luma_string near mb = elim mb.transform8 [ true ↦ parts_string (luma8_string mb) 4 | false ↦ parts_string (luma4_string near mb) 16 ]

-- Cb, 0, or Cr, 1
abbrev pub chroma_dc_part_string : Near → MbRecord → ℕ → List Bin
chroma_dc_part_string near mb c =
    string_where (not (mb.chroma_cbp == 0)) (block_string 3 (inc_coded mb near.left near.above 3 c 0) 3 (slice_range mb.chroma_dc (4 * c) (4 * c + 4)))

unfoldable pub chroma_dc_string : Near → MbRecord → List Bin
chroma_dc_string near mb = parts_string (chroma_dc_part_string near mb) 2

-- chroma block j, of which Cb has four and then Cr four
abbrev pub chroma_ac_part_string : Near → MbRecord → ℕ → List Bin
chroma_ac_part_string near mb j =
    string_where (mb.chroma_cbp == 2) (block_string 4 (inc_coded mb near.left near.above 4 (j / 4) (j % 4)) 14 (slice_range mb.chroma_ac (15 * j) (15 * j + 15)))

unfoldable pub chroma_ac_string : Near → MbRecord → List Bin
chroma_ac_string near mb = parts_string (chroma_ac_part_string near mb) 8

-- ---- all of it

unfoldable pub macroblock_string : Near → MbRecord → List Bin
macroblock_string near mb =
    head_string near mb ++ transform_string near mb ++ modes_string near mb ++ intra_chroma_string near mb ++ luma_cbp_string near mb ++ chroma_cbp_string near mb
    ++ inter_transform_string near mb ++ qp_string near mb ++ luma_dc_string near mb ++ luma_string near mb ++ chroma_dc_string near mb ++ chroma_ac_string near mb
