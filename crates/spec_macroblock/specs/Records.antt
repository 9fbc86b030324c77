-- Which records the syntax of a macroblock can give: values in their ranges, levels where the pattern says, and what isn't used as in a blank record (ITU-T H.264, clauses 7.4.5 and 7.4.5.1).
use Rattle.std.specs.Prelude.{◌≡◌, ℕ, ◌+◌, ◌*◌, ◌/◌, ◌<◌, ◌≤◌, ◌==◌, Bool, true, false, cond, not, List, length, replicate, get_or, slice_range, Option, Some, None, ℤ, pos}
use Rattle.enc_tables.specs.declared.records.MbKind.{MbKind}
use Rattle.enc_tables.specs.declared.records.MbRecord.{MbRecord}
use Rattle.enc_tables.specs.Kinds.{is_nxn, is_16x16, is_intra, is_skipped, has_motion}
use Rattle.enc_tables.specs.Records.{zero_vector}
use Rattle.spec_contexts.specs.Increments.{bit_of, some_level}
use Rattle.spec_syntax.specs.Elements.{IsDelta}
use Rattle.spec_syntax.specs.Blocks.{IsLevel}
use Rattle.spec_partitions.specs.Near.{Near, has_residual}
use Rattle.spec_partitions.specs.Partitions.{shape_of, part_count, written_of, mvd_from}
use Rattle.spec_partitions.specs.Records.{is_in, PartFits, MvdFits}
use Rattle.spec_macroblock.specs.Strings.{difference}

-- 8x8 transforms belong to Intra 8x8, and to inter macroblocks with luma levels
abbrev pub TransformFits : Bool → MbKind → Bool → Bool → Type 0
TransformFits t8x8 MbKind.Intra4 luma transform8 = transform8 ≡ false
TransformFits t8x8 MbKind.Intra8 luma transform8 = (t8x8 ≡ true) × (transform8 ≡ true)
TransformFits t8x8 MbKind.Intra16 luma transform8 = transform8 ≡ false
TransformFits t8x8 MbKind.Pcm luma transform8 = transform8 ≡ false
TransformFits t8x8 _ luma transform8 = transform8 ≡ true → (t8x8 ≡ true) × (luma ≡ true)

-- intra modes are 0 to 8
abbrev pub AreModes : List ℕ → Type 0
AreModes modes = (i : ℕ) → get_or modes i 0 ≤ 8

abbrev pub NearModes : Option MbRecord → Type 0
NearModes None = Unit {0}
NearModes (Some n) = AreModes n.modes

-- how many modes a macroblock has
abbrev pub modes_used : MbRecord → ℕ
modes_used mb = cond (is_16x16 mb.kind) 1 (cond (is_nxn mb.kind) (cond mb.transform8 4 16) 0)

-- an Intra 16x16 macroblock has modes 0 to 3, and its luma pattern is 0 or 15
abbrev pub WholeFits : Bool → MbRecord → Type 0
WholeFits true mb = (get_or mb.modes 0 0 ≤ 3) × (mb.luma_cbp ≡ cond (mb.luma_cbp == 0) 0 15)
WholeFits false mb = Unit {0}

-- the QP is reached by an mb_qp_delta, where there is one
abbrev pub QpFits : Bool → ℕ → ℕ → Type 0
QpFits true before qp = (qp ≤ 51) × IsDelta (difference before qp)
QpFits false before qp = qp ≡ before

abbrev pub level_at : List ℤ → ℕ → ℤ
level_at ls i = get_or ls i (pos 0)

abbrev pub AreLevels : List ℤ → Type 0
AreLevels ls = (i : ℕ) → IsLevel (level_at ls i)

pub record IsRecord (near : Near) (mb : MbRecord) : Type 0 where
  pub in_slice : is_in near.kind mb.kind ≡ true
  pub transform_fits : TransformFits near.t8x8 mb.kind (not (mb.luma_cbp == 0)) mb.transform8
  -- modes
  pub left_modes : NearModes near.left
  pub above_modes : NearModes near.above
  pub modes_length : length mb.modes ≡ 16
  pub modes_known : AreModes mb.modes
  pub modes_blank : (i : ℕ) → modes_used mb ≤ i → get_or mb.modes i 0 ≡ 0
  pub whole_fits : WholeFits (is_16x16 mb.kind) mb
  pub chroma_mode_fits : mb.chroma_mode ≤ 3
  pub chroma_mode_blank : is_intra mb.kind ≡ false → mb.chroma_mode ≡ 0
  -- what is written of partitions
  pub parts_fit : has_motion mb.kind ≡ true → (part : ℕ) → part < part_count (shape_of mb.kind) → PartFits near mb part
  pub mvds_fit : has_motion mb.kind ≡ true → (list : ℕ) → list < 2 → (part : ℕ) → part < part_count (shape_of mb.kind) → MvdFits mb list part
  pub mvd_is : mb.mvd ≡ cond (has_motion mb.kind) (mvd_from mb.kind (written_of mb)) (replicate 8 zero_vector)
  -- pattern and QP
  pub luma_cbp_fits : mb.luma_cbp ≤ 15
  pub chroma_cbp_fits : mb.chroma_cbp ≤ 2
  pub cbp_blank : is_skipped mb.kind ≡ true → (mb.luma_cbp ≡ 0) × (mb.chroma_cbp ≡ 0)
  pub qp_fits : QpFits (has_residual mb) near.qp mb.qp
  -- the DC levels of Intra 16x16
  pub dc_length : length mb.luma_dc ≡ 16
  pub dc_levels : AreLevels mb.luma_dc
  pub dc_blank : is_16x16 mb.kind ≡ false → (i : ℕ) → level_at mb.luma_dc i ≡ pos 0
  -- luma levels: none in an 8x8 block whose bit isn't set, some in one of 8x8 transform whose bit is set, and none at the DC
  -- places of Intra 16x16
  pub luma_length : length mb.luma ≡ 256
  pub luma_levels : AreLevels mb.luma
  pub luma_blank : (i : ℕ) → bit_of mb.luma_cbp (i / 64) ≡ false → level_at mb.luma i ≡ pos 0
  pub luma_some : mb.transform8 ≡ true → (k : ℕ) → k < 4 → bit_of mb.luma_cbp k ≡ true → some_level (slice_range mb.luma (64 * k) (64 * k + 64)) ≡ true
  pub luma_places : is_16x16 mb.kind ≡ true → (b : ℕ) → level_at mb.luma (16 * b) ≡ pos 0
  -- chroma levels
  pub chroma_dc_length : length mb.chroma_dc ≡ 8
  pub chroma_dc_levels : AreLevels mb.chroma_dc
  pub chroma_dc_blank : (mb.chroma_cbp == 0) ≡ true → (i : ℕ) → level_at mb.chroma_dc i ≡ pos 0
  pub chroma_ac_length : length mb.chroma_ac ≡ 120
  pub chroma_ac_levels : AreLevels mb.chroma_ac
  pub chroma_ac_blank : (mb.chroma_cbp == 2) ≡ false → (i : ℕ) → level_at mb.chroma_ac i ≡ pos 0
