-- Skipped and direct macroblocks.
use Rattle.std.proofs.Common.{◌≡◌, ℕ, ℤ, pos, Bool, false, List, replicate, refl, ap}
use Rattle.enc_tables.specs.declared.records.MbKind.{MbKind}
use Rattle.enc_tables.specs.declared.records.Motion.{Motion}
use Rattle.enc_tables.specs.declared.records.Vector.{Vector}
use Rattle.enc_tables.specs.declared.records.SliceKind.{SliceKind}
use Rattle.enc_tables.specs.Records.{zero_vector, blank_record}
use Rattle.spec_partitions.specs.Near.{Near, View}
use Rattle.spec_partitions.specs.Derived.{skip_motion, direct_motion}
use Rattle.spec_partitions.specs.Records.{is_in, HasMotion}
use Rattle.spec_macroblock.specs.Records.{IsRecord}
use Rattle.spec_reconstruction.specs.declared.Site.{Site}
use Rattle.spec_reconstruction.specs.Records.{luma_pattern, chroma_pattern}
use Rattle.spec_record_laws.specs.Coded.{Stands}
use Rattle.spec_record_laws.proofs.Whole.{no_levels}
use Rattle.spec_inter_records.proofs.Made.{inter_record, LevelsFit, FlagFits, NoLevels}
use Rattle.spec_inter_records.proofs.Fits.{inter_fits}

-- a skipped macroblock of a P slice: without levels, whatever lists of zeros stand for them
pub p_skip_fits : (near : Near) (site : Site) (transform8 : Bool) (motion : List Motion) (luma dc ac : List ℤ) → Stands near site → near.kind ≡ SliceKind.P → LevelsFit luma dc ac → FlagFits near.t8x8 transform8 luma → NoLevels luma dc ac
    → IsRecord near (inter_record MbKind.PSkip transform8 motion (replicate 8 zero_vector) site.qp luma dc ac)
unfolding inter_record
p_skip_fits near site transform8 motion luma dc ac s slice l t none =
    inter_fits near site MbKind.PSkip transform8 motion (replicate 8 zero_vector) luma dc ac s refl (ap (λ k. is_in k MbKind.PSkip) slice) l
    t (λ e. none) (record { parts_fit = λ e. absurd cc; mvds_fit = λ e. absurd cc; mvd_is = refl })

pub p_skip_moves : (view : View) (transform8 : Bool) (mvd : List Vector) (qp : ℕ) (luma dc ac : List ℤ) → HasMotion view (inter_record MbKind.PSkip transform8 (skip_motion view) mvd qp luma dc ac)
unfolding inter_record
p_skip_moves view transform8 mvd qp luma dc ac = record { same = refl }

-- likewise in B slices
pub b_skip_fits : (near : Near) (site : Site) (transform8 : Bool) (motion : List Motion) (luma dc ac : List ℤ) → Stands near site → near.kind ≡ SliceKind.B → LevelsFit luma dc ac → FlagFits near.t8x8 transform8 luma → NoLevels luma dc ac
    → IsRecord near (inter_record MbKind.BSkip transform8 motion (replicate 8 zero_vector) site.qp luma dc ac)
unfolding inter_record
b_skip_fits near site transform8 motion luma dc ac s slice l t none =
    inter_fits near site MbKind.BSkip transform8 motion (replicate 8 zero_vector) luma dc ac s refl (ap (λ k. is_in k MbKind.BSkip) slice) l
    t (λ e. none) (record { parts_fit = λ e. absurd cc; mvds_fit = λ e. absurd cc; mvd_is = refl })

pub b_skip_moves : (view : View) (transform8 : Bool) (mvd : List Vector) (qp : ℕ) (luma dc ac : List ℤ)
    → HasMotion view (inter_record MbKind.BSkip transform8 (direct_motion view) mvd qp luma dc ac)
unfolding inter_record
b_skip_moves view transform8 mvd qp luma dc ac = record { same = refl }

-- a direct macroblock: with levels, or without
pub b_direct_fits : (near : Near) (site : Site) (transform8 : Bool) (motion : List Motion) (luma dc ac : List ℤ) → Stands near site → near.kind ≡ SliceKind.B → LevelsFit luma dc ac → FlagFits near.t8x8 transform8 luma
    → IsRecord near (inter_record MbKind.BDirect transform8 motion (replicate 8 zero_vector) site.qp luma dc ac)
unfolding inter_record
b_direct_fits near site transform8 motion luma dc ac s slice l t =
    inter_fits near site MbKind.BDirect transform8 motion (replicate 8 zero_vector) luma dc ac s refl (ap (λ k. is_in k MbKind.BDirect) slice) l
    t (λ e. absurd cc) (record { parts_fit = λ e. absurd cc; mvds_fit = λ e. absurd cc; mvd_is = refl })

pub b_direct_moves : (view : View) (transform8 : Bool) (mvd : List Vector) (qp : ℕ) (luma dc ac : List ℤ)
    → HasMotion view (inter_record MbKind.BDirect transform8 (direct_motion view) mvd qp luma dc ac)
unfolding inter_record
b_direct_moves view transform8 mvd qp luma dc ac = record { same = refl }

-- ---- blank records

blank_levels : LevelsFit (replicate 256 (pos 0)) (replicate 8 (pos 0)) (replicate 120 (pos 0))
blank_levels = record { luma_length = refl; luma_levels = no_levels 256; dc_length = refl; dc_levels = no_levels 8; ac_length = refl; ac_levels = no_levels 120 }

blank_flag : {t8x8 : Bool} → FlagFits t8x8 false (replicate 256 (pos 0))
blank_flag = record { allowed = λ e. absurd cc; some = λ e. absurd cc }

blank_none : NoLevels (replicate 256 (pos 0)) (replicate 8 (pos 0)) (replicate 120 (pos 0))
unfolding luma_pattern chroma_pattern
blank_none = record { luma_none = refl; chroma_none = refl }

pub blank_p_skip : (near : Near) (site : Site) (motion : List Motion) → Stands near site → near.kind ≡ SliceKind.P → IsRecord near (record (blank_record MbKind.PSkip site.qp) { motion = motion })
unfolding inter_record blank_record luma_pattern chroma_pattern
blank_p_skip near site motion s slice = p_skip_fits near site false motion _ _ _ s slice blank_levels blank_flag blank_none

pub blank_b_skip : (near : Near) (site : Site) (motion : List Motion) → Stands near site → near.kind ≡ SliceKind.B → IsRecord near (record (blank_record MbKind.BSkip site.qp) { motion = motion })
unfolding inter_record blank_record luma_pattern chroma_pattern
blank_b_skip near site motion s slice = b_skip_fits near site false motion _ _ _ s slice blank_levels blank_flag blank_none
