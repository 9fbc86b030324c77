-- ctxIdxInc by the neighbouring macroblocks A, at the left, and B, above (ITU-T H.264, clause 9.3.3.1.1). Each `.._flag` is condTermFlagN.
use Rattle.std.specs.Prelude.{ℕ, zero, suc, ◌+◌, ◌*◌, ◌/◌, ◌%◌, ◌^◌, ◌==◌, Bool, true, false, not, ◌&&◌, ◌||◌, nat_lt, nat_le, Option, Some, None, if◌then◌else◌, ℤ, pos, negsuc, nat_abs, List, slice_index_or, slice_range}
use Rattle.std.specs.List.{list_any}
use Rattle.enc_tables.specs.declared.records.MbRecord.{MbRecord}
use Rattle.enc_tables.specs.declared.records.Vector.{Vector}
use Rattle.enc_tables.specs.Records.{zero_vector, no_motion, is_used}
use Rattle.enc_tables.specs.Kinds.{is_pcm, is_nxn, is_16x16, is_intra, is_skipped, is_direct, has_motion}
use Rattle.spec_contexts.specs.Near.{left_holder2, above_holder2, left_block2, above_block2, left_holder4, above_holder4, left_block4, above_block4}

-- ---- condTermFlagA and condTermFlagB together

abbrev pub weight : Bool → ℕ
weight false = 0
weight true = 1

-- condTermFlagA + condTermFlagB
abbrev pub plain : Bool → Bool → ℕ
plain a b = weight a + weight b

-- condTermFlagA + 2 * condTermFlagB
abbrev pub doubled : Bool → Bool → ℕ
doubled a b = weight a + 2 * weight b

-- what holds of an available macroblock; a macroblock that isn't available counts 0
abbrev pub available : (MbRecord → Bool) → Option MbRecord → Bool
available holds None = false
available holds (Some mb) = holds mb

-- ---- mb_skip_flag (clause 9.3.3.1.1.1): available and not skipped

abbrev pub skip_flag : Option MbRecord → Bool
skip_flag n = available (λ mb. not (is_skipped mb.kind)) n

unfoldable pub inc_skip : Option MbRecord → Option MbRecord → ℕ
inc_skip left above = plain (skip_flag left) (skip_flag above)

-- ---- mb_type (clause 9.3.3.1.1.3): in I slices available and not I_NxN; in B slices available and neither B_Skip nor B_Direct_16x16

abbrev pub type_i_flag : Option MbRecord → Bool
type_i_flag n = available (λ mb. not (is_nxn mb.kind)) n

unfoldable pub inc_type_i : Option MbRecord → Option MbRecord → ℕ
inc_type_i left above = plain (type_i_flag left) (type_i_flag above)

abbrev pub type_b_flag : Option MbRecord → Bool
type_b_flag n = available (λ mb. not (is_direct mb.kind)) n

unfoldable pub inc_type_b : Option MbRecord → Option MbRecord → ℕ
inc_type_b left above = plain (type_b_flag left) (type_b_flag above)

-- ---- coded_block_pattern (clause 9.3.3.1.1.4)

-- bit k of a pattern
abbrev pub bit_of : ℕ → ℕ → Bool
bit_of pattern k = pattern / 2 ^ k % 2 == 1

-- the luma bins: available, not I_PCM, and skipped or without the bit of 8x8 block k
abbrev pub luma_cbp_flag : ℕ → Option MbRecord → Bool
luma_cbp_flag k n = available (λ mb. not (is_pcm mb.kind) && (is_skipped mb.kind || not (bit_of mb.luma_cbp k))) n

-- of the bin of 8x8 block k of mb
unfoldable pub inc_luma_cbp : MbRecord → Option MbRecord → Option MbRecord → ℕ → ℕ
inc_luma_cbp mb left above k =
    doubled (luma_cbp_flag (left_block2 k) (left_holder2 mb left k)) (luma_cbp_flag (above_block2 k) (above_holder2 mb above k))

-- the chroma bins: available, and I_PCM, or neither skipped nor without chroma levels (at the second bin, AC levels)
abbrev pub chroma_cbp_flag : Bool → Option MbRecord → Bool
chroma_cbp_flag second n =
    available (λ mb. is_pcm mb.kind || (not (is_skipped mb.kind) && (if second then mb.chroma_cbp == 2 else not (mb.chroma_cbp == 0)))) n

unfoldable pub inc_chroma_cbp : Option MbRecord → Option MbRecord → Bool → ℕ
inc_chroma_cbp left above second = doubled (chroma_cbp_flag second left) (chroma_cbp_flag second above)

-- ---- mb_qp_delta (clause 9.3.3.1.1.5): the macroblock before in the slice has a written difference that isn't 0

abbrev pub inc_qp_delta : Bool → ℕ
inc_qp_delta last_delta = weight last_delta

-- ---- ref_idx (clause 9.3.3.1.1.6): available, inter, neither skipped nor direct, and its 8x8 block k uses the list with an index above 0

-- the reference index of 8x8 block k in a list
abbrev pub ref_of : MbRecord → ℕ → ℕ → ℤ
ref_of mb list k = slice_index_or (slice_index_or mb.motion k no_motion).refs list (pos 0)

abbrev pub is_above_0 : ℤ → Bool
is_above_0 (pos zero) = false
is_above_0 (pos (suc n)) = true
is_above_0 (negsuc n) = false

abbrev pub ref_flag : ℕ → ℕ → Option MbRecord → Bool
ref_flag list k n = available (λ mb. has_motion mb.kind && is_above_0 (ref_of mb list k)) n

-- of the part that begins at 8x8 block k of mb
unfoldable pub inc_ref : MbRecord → Option MbRecord → Option MbRecord → ℕ → ℕ → ℕ
inc_ref mb left above list k =
    doubled (ref_flag list (left_block2 k) (left_holder2 mb left k)) (ref_flag list (above_block2 k) (above_holder2 mb above k))

-- ---- mvd (clause 9.3.3.1.1.7)

-- a component of the written difference of 8x8 block k
abbrev pub mvd_of : MbRecord → ℕ → ℕ → Bool → ℤ
mvd_of mb list k vertical =
    (λ (v : Vector). if vertical then v.y else v.x) (slice_index_or mb.mvd (4 * list + k) zero_vector)

-- absMvdCompN: 0 where not available, intra, skipped, direct or without the list
abbrev pub mvd_size : ℕ → ℕ → Bool → Option MbRecord → ℕ
mvd_size list k vertical None = 0
mvd_size list k vertical (Some mb) =
    if has_motion mb.kind && is_used (ref_of mb list k) then nat_abs (mvd_of mb list k vertical) else 0

-- by the sum of both: below 3, 3 to 32, above 32
abbrev pub mvd_class : ℕ → ℕ
mvd_class sum = if nat_lt sum 3 then 0 else if nat_le sum 32 then 1 else 2

unfoldable pub inc_mvd : MbRecord → Option MbRecord → Option MbRecord → ℕ → ℕ → Bool → ℕ
inc_mvd mb left above list k vertical =
    mvd_class (mvd_size list (left_block2 k) vertical (left_holder2 mb left k) + mvd_size list (above_block2 k) vertical (above_holder2 mb above k))

-- ---- intra_chroma_pred_mode (clause 9.3.3.1.1.8): available, intra, not I_PCM, and a mode that isn't 0

abbrev pub chroma_mode_flag : Option MbRecord → Bool
chroma_mode_flag n = available (λ mb. is_intra mb.kind && not (is_pcm mb.kind) && not (mb.chroma_mode == 0)) n

unfoldable pub inc_chroma_mode : Option MbRecord → Option MbRecord → ℕ
inc_chroma_mode left above = plain (chroma_mode_flag left) (chroma_mode_flag above)

-- ---- transform_size_8x8_flag (clause 9.3.3.1.1.10): available with the flag 1

abbrev pub transform_flag : Option MbRecord → Bool
transform_flag n = available (λ mb. mb.transform8) n

unfoldable pub inc_transform : Option MbRecord → Option MbRecord → ℕ
inc_transform left above = plain (transform_flag left) (transform_flag above)

-- ---- coded_block_flag (clause 9.3.3.1.1.9)

abbrev pub is_level : ℤ → Bool
is_level (pos zero) = false
is_level (pos (suc n)) = true
is_level (negsuc n) = true

-- some level isn't 0
abbrev pub some_level : List ℤ → Bool
some_level levels = list_any is_level levels

-- a neighbour that isn't available counts 1 in intra macroblocks and 0 in inter ones; I_PCM counts 1; in a skipped macroblock no
-- block is written; else it is the flag of the neighbouring block, 0 where that isn't written
abbrev pub coded_flag : MbRecord → (MbRecord → Bool) → Option MbRecord → Bool
coded_flag mb written None = is_intra mb.kind
coded_flag mb written (Some n) = is_pcm n.kind || (not (is_skipped n.kind) && written n)

-- the flags of the blocks of a macroblock, by category

-- 0: the DC levels of Intra 16x16
abbrev pub luma_dc_coded : MbRecord → Bool
luma_dc_coded n = is_16x16 n.kind && some_level n.luma_dc

-- the levels of 4x4 block b; those of AC blocks of Intra 16x16 are behind a place that is 0
abbrev pub luma_levels : MbRecord → ℕ → List ℤ
luma_levels n b = slice_range n.luma (16 * b) (16 * b + 16)

-- 1 and 2: 4x4 block b is written where the bit of its 8x8 block is set; with 8x8 transforms the bit alone counts
abbrev pub luma_coded : ℕ → MbRecord → Bool
luma_coded b n = bit_of n.luma_cbp (b / 4) && (n.transform8 || some_level (luma_levels n b))

-- 3: the DC levels of Cb or Cr
abbrev pub chroma_dc_coded : ℕ → MbRecord → Bool
chroma_dc_coded component n = not (n.chroma_cbp == 0) && some_level (slice_range n.chroma_dc (4 * component) (4 * component + 4))

-- 4: the AC levels of a block of Cb or Cr
abbrev pub chroma_ac_coded : ℕ → ℕ → MbRecord → Bool
chroma_ac_coded component b n = n.chroma_cbp == 2 && some_level (slice_range n.chroma_ac (60 * component + 15 * b) (60 * component + 15 * b + 15))

abbrev pub inc_luma : MbRecord → Option MbRecord → Option MbRecord → ℕ → ℕ
inc_luma mb left above b =
    doubled
    (coded_flag mb (luma_coded (left_block4 b)) (left_holder4 mb left b))
    (coded_flag mb (luma_coded (above_block4 b)) (above_holder4 mb above b))

abbrev pub inc_luma_dc : MbRecord → Option MbRecord → Option MbRecord → ℕ
inc_luma_dc mb left above = doubled (coded_flag mb luma_dc_coded left) (coded_flag mb luma_dc_coded above)

abbrev pub inc_chroma_dc : MbRecord → Option MbRecord → Option MbRecord → ℕ → ℕ
inc_chroma_dc mb left above component =
    doubled (coded_flag mb (chroma_dc_coded component) left) (coded_flag mb (chroma_dc_coded component) above)

abbrev pub inc_chroma_ac : MbRecord → Option MbRecord → Option MbRecord → ℕ → ℕ → ℕ
inc_chroma_ac mb left above component b =
    doubled
    (coded_flag mb (chroma_ac_coded component (left_block2 b)) (left_holder2 mb left b))
    (coded_flag mb (chroma_ac_coded component (above_block2 b)) (above_holder2 mb above b))

-- of block b of mb, by its category
unfoldable pub inc_coded : MbRecord → Option MbRecord → Option MbRecord → ℕ → ℕ → ℕ → ℕ
inc_coded mb left above category component b =
    if category == 0 then inc_luma_dc mb left above
    else if nat_le category 2 then inc_luma mb left above b
    else if category == 3 then inc_chroma_dc mb left above component
    else inc_chroma_ac mb left above component b
