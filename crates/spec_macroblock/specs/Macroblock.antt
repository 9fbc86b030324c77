-- A macroblock, read element by element (ITU-T H.264, clauses 7.3.5, 7.3.5.1 and 7.3.5.3). Each step reads what is next and sets it in the record, which starts blank.
use Rattle.std.specs.Prelude.{ℕ, suc, ◌+◌, ◌-◌, ◌*◌, ◌/◌, ◌%◌, ◌==◌, Bool, true, false, not, ◌&&◌, cond, List, [], ◌∷◌, ◌++◌, length, replicate, ℤ, pos, negsuc}
use Rattle.enc_tables.specs.declared.records.MbKind.{MbKind}
use Rattle.enc_tables.specs.declared.records.MbRecord.{MbRecord}
use Rattle.enc_tables.specs.declared.records.SliceKind.{SliceKind}
use Rattle.enc_tables.specs.Kinds.{is_nxn, is_16x16, is_intra}
use Rattle.enc_tables.specs.Records.{blank_record}
use Rattle.spec_contexts.specs.Increments.{weight, bit_of, inc_skip, inc_type_i, inc_type_b, inc_transform, inc_chroma_mode, inc_luma_cbp, inc_chroma_cbp, inc_qp_delta, inc_coded}
use Rattle.spec_syntax.specs.declared.ListUse.{ListUse}
use Rattle.spec_syntax.specs.Syntax.{Syntax, done, nothing, ◌>>=◌, flag}
use Rattle.spec_syntax.specs.Sequences.{where_present}
use Rattle.spec_syntax.specs.Elements.{IntraType, NxN, Pcm, Whole, intra_type, chroma_mode, luma_pattern, chroma_pattern, transform_flag, qp_delta}
use Rattle.spec_syntax.specs.Inter.{has_inter, skip_at, PType, p_type, BType, b_type}
use Rattle.spec_syntax.specs.Blocks.{block, some_levels}
use Rattle.spec_partitions.specs.Near.{Near, View, has_pattern, can_have_8x8, has_residual}
use Rattle.spec_partitions.specs.Parts.{parts}
use Rattle.spec_partitions.specs.Partitions.{mvd_from}
use Rattle.spec_partitions.specs.Derived.{motion_from, skip_motion, direct_motion}
use Rattle.spec_partitions.specs.Inter.{sub_types, inter}
use Rattle.spec_macroblock.specs.Modes.{predicted, mode_count, mode}

-- ---- mb_type

-- what the type of an intra macroblock says; the samples of I_PCM aren't read yet
abbrev pub typed : ℕ → IntraType → Syntax MbRecord
typed qp NxN = done (blank_record MbKind.Intra4 qp)
typed qp Pcm = nothing
typed qp (Whole mode chroma ac) =
    done (record (blank_record MbKind.Intra16 qp) { modes = mode ∷ replicate 15 0; luma_cbp = cond ac 15 0; chroma_cbp = chroma })

-- a macroblock of partitions that use these lists
unfoldable pub partitioned : View → MbKind → List ListUse → Syntax MbRecord
partitioned view kind uses = inter view.near kind uses >>= λ w. done (record (blank_record kind view.near.qp) { motion = motion_from view kind w; mvd = mvd_from kind w })

abbrev pub typed_p : View → PType → Syntax MbRecord
typed_p view PType.One = partitioned view MbKind.P16 (ListUse.L0 ∷ [])
typed_p view PType.Rows = partitioned view MbKind.P16x8 (ListUse.L0 ∷ ListUse.L0 ∷ [])
typed_p view PType.Columns = partitioned view MbKind.P8x16 (ListUse.L0 ∷ ListUse.L0 ∷ [])
typed_p view PType.Four = sub_types SliceKind.P >>= λ uses. partitioned view MbKind.P8x8 uses
typed_p view (PType.Intra t) = typed view.near.qp t

abbrev pub typed_b : View → BType → Syntax MbRecord
typed_b view BType.Direct = done (record (blank_record MbKind.BDirect view.near.qp) { motion = direct_motion view })
typed_b view (BType.One u) = partitioned view MbKind.B16 (u ∷ [])
typed_b view (BType.Rows u v) = partitioned view MbKind.B16x8 (u ∷ v ∷ [])
typed_b view (BType.Columns u v) = partitioned view MbKind.B8x16 (u ∷ v ∷ [])
typed_b view BType.Four = sub_types SliceKind.B >>= λ uses. partitioned view MbKind.B8x8 uses
typed_b view (BType.Intra t) = typed view.near.qp t

-- mb_type, and of inter macroblocks what is written of their partitions
abbrev pub type_in : SliceKind → View → Syntax MbRecord
type_in SliceKind.I view = intra_type (inc_type_i view.near.left view.near.above) >>= λ t. typed view.near.qp t
type_in SliceKind.P view = p_type >>= λ t. typed_p view t
type_in SliceKind.B view = b_type (inc_type_b view.near.left view.near.above) >>= λ t. typed_b view t

-- a skipped macroblock
abbrev pub skipped_in : SliceKind → View → MbRecord
skipped_in SliceKind.B view = record (blank_record MbKind.BSkip view.near.qp) { motion = direct_motion view }
skipped_in _ view = record (blank_record MbKind.PSkip view.near.qp) { motion = skip_motion view }

-- mb_skip_flag, which I slices don't have, and where it is 0 the type
unfoldable pub with_type : View → Syntax MbRecord
with_type view =
    where_present (has_inter view.near.kind) false (flag (skip_at view.near.kind (inc_skip view.near.left view.near.above)))
    >>= λ skipped. elim skipped [ true ↦ done (skipped_in view.near.kind view) | false ↦ type_in view.near.kind view ]

-- ---- transform_size_8x8_flag of I_NxN

abbrev pub kind_with : Bool → MbKind → MbKind
kind_with true kind = MbKind.Intra8
kind_with false kind = kind

unfoldable pub with_transform : Near → MbRecord → Syntax MbRecord
with_transform near r =
    where_present (near.t8x8 && is_nxn r.kind) false (flag (transform_flag (inc_transform near.left near.above)))
    >>= λ t8. done (record r { kind = kind_with t8 r.kind; transform8 = t8 })

-- ---- the intra modes

-- the mode of block b, after those before it
abbrev pub mode_part : Near → MbRecord → ℕ → List ℕ → Syntax (List ℕ)
mode_part near r b before = mode (predicted (record r { modes = before }) near.left near.above b) >>= λ m. done (m ∷ [])

unfoldable pub with_modes : Near → MbRecord → Syntax MbRecord
with_modes near r =
    where_present (is_nxn r.kind) r.modes (parts (mode_part near r) (mode_count r) >>= λ modes. done (modes ++ replicate (16 - length modes) 0))
    >>= λ modes. done (record r { modes = modes })

unfoldable pub with_chroma_mode : Near → MbRecord → Syntax MbRecord
with_chroma_mode near r =
    where_present (is_intra r.kind) 0 (chroma_mode (inc_chroma_mode near.left near.above)) >>= λ mode. done (record r { chroma_mode = mode })

-- ---- coded_block_pattern

-- the pattern whose low bits are these, the lowest one first
abbrev pub pattern_of : List Bool → ℕ
pattern_of [] = 0
pattern_of (b ∷ bits) = weight b + 2 * pattern_of bits

unfoldable pub with_luma_pattern : Near → MbRecord → Syntax MbRecord
with_luma_pattern near r =
    where_present (has_pattern r.kind) r.luma_cbp (luma_pattern (λ bits. inc_luma_cbp (record r { luma_cbp = pattern_of bits }) near.left near.above (length bits)))
    >>= λ cbp. done (record r { luma_cbp = cbp })

unfoldable pub with_chroma_pattern : Near → MbRecord → Syntax MbRecord
with_chroma_pattern near r =
    where_present (has_pattern r.kind) r.chroma_cbp (chroma_pattern (inc_chroma_cbp near.left near.above false) (inc_chroma_cbp near.left near.above true))
    >>= λ cbp. done (record r { chroma_cbp = cbp })

-- ---- transform_size_8x8_flag of inter macroblocks

unfoldable pub with_inter_transform : Near → MbRecord → Syntax MbRecord
with_inter_transform near r =
    where_present (near.t8x8 && can_have_8x8 r) r.transform8 (flag (transform_flag (inc_transform near.left near.above))) >>= λ t8. done (record r { transform8 = t8 })

-- ---- mb_qp_delta

-- QP_Y (7-37)
abbrev pub moved : ℕ → ℤ → ℕ
moved qp (pos n) = (qp + n + 52) % 52
moved qp (negsuc n) = (qp + 52 - suc n) % 52

unfoldable pub with_qp : Near → MbRecord → Syntax MbRecord
with_qp near r =
    where_present (has_residual r) near.qp (qp_delta (inc_qp_delta near.last_delta) >>= λ delta. done (moved near.qp delta))
    >>= λ qp. done (record r { qp = qp })

-- ---- the residual

abbrev pub zeros : ℕ → List ℤ
zeros n = replicate n (pos 0)

unfoldable pub with_luma_dc : Near → MbRecord → Syntax MbRecord
with_luma_dc near r =
    where_present (is_16x16 r.kind) (zeros 16) (block 0 (inc_coded r near.left near.above 0 0 0) 15) >>= λ ls. done (record r { luma_dc = ls })

-- the levels of 4x4 block b, after those before it: of Intra 16x16 the AC levels, behind a place that is 0
abbrev pub luma4_part : Near → MbRecord → ℕ → List ℤ → Syntax (List ℤ)
luma4_part near r b before =
    where_present (bit_of r.luma_cbp (b / 4)) (zeros 16) (elim (is_16x16 r.kind) [
      | true ↦ block 1 (inc_coded (record r { luma = before }) near.left near.above 1 0 b) 14 >>= λ ls. done (pos 0 ∷ ls)
      | false ↦ block 2 (inc_coded (record r { luma = before }) near.left near.above 2 0 b) 15
    ])

-- the levels of 8x8 block k
abbrev pub luma8_part : MbRecord → ℕ → List ℤ → Syntax (List ℤ)
luma8_part r k before = where_present (bit_of r.luma_cbp k) (zeros 64) (some_levels 5 63)

unfoldable pub with_luma : Near → MbRecord → Syntax MbRecord
with_luma near r = elim r.transform8 [ true ↦ parts (luma8_part r) 4 | false ↦ parts (luma4_part near r) 16 ] >>= λ ls. done (record r { luma = ls })

-- the DC levels of Cb, 0, or Cr, 1
abbrev pub chroma_dc_part : Near → MbRecord → ℕ → List ℤ → Syntax (List ℤ)
chroma_dc_part near r c before = where_present (not (r.chroma_cbp == 0)) (zeros 4) (block 3 (inc_coded r near.left near.above 3 c 0) 3)

unfoldable pub with_chroma_dc : Near → MbRecord → Syntax MbRecord
with_chroma_dc near r = parts (chroma_dc_part near r) 2 >>= λ ls. done (record r { chroma_dc = ls })

-- the AC levels of chroma block j, of which Cb has four and then Cr four, after those before it
abbrev pub chroma_ac_part : Near → MbRecord → ℕ → List ℤ → Syntax (List ℤ)
chroma_ac_part near r j before =
    where_present (r.chroma_cbp == 2) (zeros 15) (block 4 (inc_coded (record r { chroma_ac = before }) near.left near.above 4 (j / 4) (j % 4)) 14)

unfoldable pub with_chroma_ac : Near → MbRecord → Syntax MbRecord
with_chroma_ac near r = parts (chroma_ac_part near r) 8 >>= λ ls. done (record r { chroma_ac = ls })

-- ---- all of it

unfoldable pub macroblock : View → Syntax MbRecord
macroblock view =
    with_type view >>= with_transform view.near >>= with_modes view.near >>= with_chroma_mode view.near >>= with_luma_pattern view.near >>= with_chroma_pattern view.near
    >>= with_inter_transform view.near >>= with_qp view.near >>= with_luma_dc view.near >>= with_luma view.near >>= with_chroma_dc view.near >>= with_chroma_ac view.near
