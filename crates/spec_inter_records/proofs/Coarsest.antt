-- The coarsest records are records of the syntax, in slices of the greatest QP.
use Rattle.std.proofs.Common.{◌≡◌, ◌*◌, ℕ, true, replicate, ◌∷◌, refl, lit≤}
use Rattle.enc_tables.specs.declared.records.MbKind.{MbKind}
use Rattle.enc_tables.specs.declared.records.MbRecord.{MbRecord}
use Rattle.enc_tables.specs.declared.records.SliceKind.{SliceKind}
use Rattle.enc_tables.specs.Records.{blank_record}
use Rattle.spec_intra.specs.declared.Avail.{Avail}
use Rattle.spec_partitions.specs.Near.{Near, View}
use Rattle.spec_partitions.specs.Derived.{skip_motion, direct_motion}
use Rattle.spec_partitions.proofs.SmallVectors.{blank_in}
use Rattle.spec_macroblock.specs.Records.{IsRecord}
use Rattle.spec_slice_payload.specs.Allowed.{modes_allowed}
use Rattle.spec_reconstruction.specs.declared.Site.{Site}
use Rattle.spec_coded.specs.Planned.{moving}
use Rattle.spec_coded.specs.Coarsest.{coarsest_in}
use Rattle.spec_record_laws.specs.Coded.{Stands}
use Rattle.spec_record_laws.proofs.Whole.{qp_fits, no_levels, no_levels_at, intra16_in, whole_modes, whole_modes_blank}
use Rattle.spec_inter_records.proofs.Skips.{blank_p_skip, blank_b_skip}
use Rattle.spec_inter_records.proofs.Carried.{Follows, inter_allowed}

-- the mean of the samples around, without levels
abbrev by_mean : ℕ → MbRecord
by_mean qp = record (blank_record MbKind.Intra16 qp) { modes = 2 ∷ replicate 15 0 }

mean_fits : (near : Near) (site : Site) → Stands near site → IsRecord near (by_mean site.qp)
unfolding blank_record
mean_fits near site s = record {
  in_slice = intra16_in near.kind;
  transform_fits = refl;
  left_modes = s.left_modes;
  above_modes = s.above_modes;
  modes_length = refl;
  modes_known = λ i. whole_modes 2 i (lit≤ tt);
  modes_blank = whole_modes_blank 2;
  whole_fits = (lit≤ tt, refl);
  chroma_mode_fits = lit≤ tt;
  chroma_mode_blank = λ e. absurd cc;
  parts_fit = λ e. absurd cc;
  mvds_fit = λ e. absurd cc;
  mvd_is = refl;
  cbp_blank = λ e. absurd cc;
  luma_cbp_fits = lit≤ tt;
  chroma_cbp_fits = lit≤ tt;
  qp_fits = qp_fits true near.qp site.qp s.same_qp s.qp_fits;
  dc_length = refl;
  dc_levels = no_levels 16;
  dc_blank = λ e. absurd cc;
  luma_length = refl;
  luma_levels = no_levels 256;
  luma_blank = λ i e. no_levels_at 256 i;
  luma_some = λ e. absurd cc;
  luma_places = λ e b. no_levels_at 256 (16 * b);
  chroma_dc_length = refl;
  chroma_dc_levels = no_levels 8;
  chroma_dc_blank = λ e i. no_levels_at 8 i;
  chroma_ac_length = refl;
  chroma_ac_levels = no_levels 120;
  chroma_ac_blank = λ e i. no_levels_at 120 i;
}

mean_follows : (avail : Avail) (view : View) (site : Site) → Stands view.near site → Follows avail view site.qp (by_mean site.qp)
unfolding blank_record modes_allowed
mean_follows avail view site s = record {
  belongs = record { written = mean_fits view.near site s; motion = record { same = refl } };
  allowed = refl;
  small = λ e. blank_in 131;
  same = refl;
}

p_skip_follows : (avail : Avail) (view : View) (site : Site) → view.near.kind ≡ SliceKind.P → Stands view.near site → Follows avail view site.qp (moving MbKind.PSkip site.qp (skip_motion view))
unfolding blank_record
p_skip_follows avail view site e s = record {
  belongs = record { written = blank_p_skip view.near site (skip_motion view) s e; motion = record { same = refl } };
  allowed = inter_allowed avail (moving MbKind.PSkip site.qp (skip_motion view)) refl refl;
  small = λ m. absurd cc;
  same = refl;
}

b_skip_follows : (avail : Avail) (view : View) (site : Site) → view.near.kind ≡ SliceKind.B → Stands view.near site → Follows avail view site.qp (moving MbKind.BSkip site.qp (direct_motion view))
unfolding blank_record
b_skip_follows avail view site e s = record {
  belongs = record { written = blank_b_skip view.near site (direct_motion view) s e; motion = record { same = refl } };
  allowed = inter_allowed avail (moving MbKind.BSkip site.qp (direct_motion view)) refl refl;
  small = λ m. absurd cc;
  same = refl;
}

-- at QP 51
abbrev pub greatest : Avail → Site
greatest avail = record { x = 0; y = 0; near = avail; qp = 51 }

pub coarsest_follows : (avail : Avail) (view : View) (k : SliceKind) → view.near.kind ≡ k → Stands view.near (greatest avail) → Follows avail view 51 (coarsest_in k view)
coarsest_follows avail view SliceKind.I e s = mean_follows avail view (greatest avail) s
coarsest_follows avail view SliceKind.P e s = p_skip_follows avail view (greatest avail) e s
coarsest_follows avail view SliceKind.B e s = b_skip_follows avail view (greatest avail) e s
