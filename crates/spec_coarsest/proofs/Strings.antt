-- The bins of a coarsest macroblock are few.
use Rattle.std.proofs.Common.{ℕ, ◌≡◌, ◌≤◌, Bool, true, false, List, ◌∷◌, length, Option, refl, sym, subst, arith, replicate}
use Rattle.enc_tables.specs.declared.records.MbKind.{MbKind}
use Rattle.enc_tables.specs.declared.records.MbRecord.{MbRecord}
use Rattle.enc_tables.specs.declared.records.Motion.{Motion}
use Rattle.enc_tables.specs.declared.records.SliceKind.{SliceKind}
use Rattle.enc_tables.specs.declared.records.SliceKind.TheVariants.{I, P, B}
use Rattle.enc_tables.specs.Records.{blank_record}
use Rattle.spec_syntax.specs.Syntax.{flag_string}
use Rattle.spec_syntax.specs.Elements.{intra_type_string, chroma_mode_string, qp_delta_string}
use Rattle.spec_syntax.specs.Blocks.{block_string, none}
use Rattle.spec_partitions.specs.Near.{Near, View}
use Rattle.spec_partitions.specs.Parts.{parts_string}
use Rattle.spec_partitions.specs.Derived.{skip_motion, direct_motion}
use Rattle.spec_macroblock.specs.Strings.{macroblock_string, head_string, inter_transform_string, mb_type_string, transform_string, modes_string, intra_chroma_string, luma_cbp_string, chroma_cbp_string, qp_string, luma_dc_string, luma_string, chroma_dc_string, chroma_ac_string}
use Rattle.spec_coded.specs.Planned.{moving}
use Rattle.spec_coded.specs.Coarsest.{coarsest_in}

abbrev flat : MbRecord
flat = record (blank_record MbKind.Intra16 51) { modes = 2 ∷ replicate 15 0 }

abbrev near_by : SliceKind → Option MbRecord → Option MbRecord → Bool → ℕ → Bool → ℕ → ℕ → Near
near_by kind left above delta qp t8x8 refs0 refs1 = record { kind = kind; left = left; above = above; last_delta = delta; qp = qp; t8x8 = t8x8; refs0 = refs0; refs1 = refs1 }

flat_bins : (left above : Option MbRecord) (delta t8x8 : Bool) (refs0 refs1 : ℕ) → length (macroblock_string (near_by I left above delta 51 t8x8 refs0 refs1) flat) ≡ 9
unfolding macroblock_string head_string inter_transform_string mb_type_string transform_string modes_string intra_chroma_string luma_cbp_string chroma_cbp_string qp_string luma_dc_string luma_string chroma_dc_string chroma_ac_string parts_string
    blank_record intra_type_string chroma_mode_string qp_delta_string block_string none
flat_bins left above delta true refs0 refs1 = refl
flat_bins left above delta false refs0 refs1 = refl

p_bins : (left above : Option MbRecord) (delta t8x8 : Bool) (qp refs0 refs1 : ℕ) (motion : List Motion) → length (macroblock_string (near_by P left above delta qp t8x8 refs0 refs1) (moving MbKind.PSkip 51 motion)) ≡ 1
unfolding macroblock_string head_string inter_transform_string mb_type_string transform_string modes_string intra_chroma_string luma_cbp_string chroma_cbp_string qp_string luma_dc_string luma_string chroma_dc_string chroma_ac_string parts_string
    blank_record flag_string
p_bins left above delta true qp refs0 refs1 motion = refl
p_bins left above delta false qp refs0 refs1 motion = refl

b_bins : (left above : Option MbRecord) (delta t8x8 : Bool) (qp refs0 refs1 : ℕ) (motion : List Motion) → length (macroblock_string (near_by B left above delta qp t8x8 refs0 refs1) (moving MbKind.BSkip 51 motion)) ≡ 1
unfolding macroblock_string head_string inter_transform_string mb_type_string transform_string modes_string intra_chroma_string luma_cbp_string chroma_cbp_string qp_string luma_dc_string luma_string chroma_dc_string chroma_ac_string parts_string
    blank_record flag_string
b_bins left above delta true qp refs0 refs1 motion = refl
b_bins left above delta false qp refs0 refs1 motion = refl

-- a macroblock at QP 51 that has at most nine bins in slices of this kind, behind one of QP 51
pub record IsShort (kind : SliceKind) (mb : MbRecord) : Type 0 where
  pub qp : mb.qp ≡ 51
  pub bins : (left above : Option MbRecord) (delta t8x8 : Bool) (refs0 refs1 : ℕ) → length (macroblock_string (near_by kind left above delta 51 t8x8 refs0 refs1) mb) ≤ 9

pub coarsest_short : (kind : SliceKind) (view : View) → IsShort kind (coarsest_in kind view)
unfolding blank_record
coarsest_short I view = record { qp = refl; bins = λ left above delta t8x8 refs0 refs1. omega (arith, flat_bins left above delta t8x8 refs0 refs1) }
coarsest_short P view = record { qp = refl; bins = λ left above delta t8x8 refs0 refs1. omega (arith, p_bins left above delta t8x8 51 refs0 refs1 (skip_motion view)) }
coarsest_short B view = record { qp = refl; bins = λ left above delta t8x8 refs0 refs1. omega (arith, b_bins left above delta t8x8 51 refs0 refs1 (direct_motion view)) }

-- the same by what is known before
pub short_bins : (kind : SliceKind) (mb : MbRecord) (near : Near) → IsShort kind mb → near.kind ≡ kind → near.qp ≡ 51 → length (macroblock_string near mb) ≤ 9
short_bins kind mb near k e q =
    subst (λ (x : SliceKind). length (macroblock_string (near_by x near.left near.above near.last_delta near.qp near.t8x8 near.refs0 near.refs1) mb) ≤ 9) (sym e)
    (subst (λ (x : ℕ). length (macroblock_string (near_by kind near.left near.above near.last_delta x near.t8x8 near.refs0 near.refs1) mb) ≤ 9) (sym q)
    (k.bins near.left near.above near.last_delta near.t8x8 near.refs0 near.refs1))
