-- The record of a macroblock behind those before it follows, whatever kind is chosen.
use Rattle.std.proofs.Common.{◌≡◌, ◌+◌, ◌*◌, ℕ, Bool, true, false, cond, List, length, refl, sym, subst, ◌∙◌}
use Rattle.enc_tables.specs.declared.records.MbKind.{MbKind}
use Rattle.enc_tables.specs.declared.records.MbPlan.{MbPlan}
use Rattle.enc_tables.specs.declared.records.MbRecord.{MbRecord}
use Rattle.enc_tables.specs.declared.records.SliceKind.{SliceKind}
use Rattle.enc_tables.specs.Choice.{choice}
use Rattle.enc_tables.specs.Kinds.{is_intra}
use Rattle.spec_film.specs.Films.{Planes}
use Rattle.spec_intra.specs.declared.Avail.{Avail}
use Rattle.spec_intra.specs.Near.{macroblock_avail}
use Rattle.spec_partitions.specs.Near.{View, near_in, view_in, has_residual}
use Rattle.spec_partitions.specs.Derived.{skip_motion, direct_motion}
use Rattle.spec_partitions.specs.Small.{AllSmall, ViewSmall}
use Rattle.spec_partitions.proofs.SmallVectors.{blank_in}
use Rattle.spec_reconstruction.specs.declared.Site.{Site}
use Rattle.spec_reconstruction.specs.Records.{site_of, intra_record, intra4_record, intra8_record, intra16_record}
use Rattle.spec_reconstruction.specs.Slices.{is_8x8, coded_record}
use Rattle.enc_tables.specs.Kinds.{is_16x16}
use Rattle.spec_coded.specs.Planned.{moving, planned}
use Rattle.spec_coded.specs.Tasks.{Task, wide, by_motion, by_choice, difference_from, in_p, in_b, in_slice, reached, record_at, record_after}
use Rattle.spec_coded.specs.Levels.{predicted_planes}
use Rattle.std.specs.Prelude.{nat_le, replicate, ◌++◌}
use Rattle.spec_record_laws.specs.Coded.{PlanesFit, ModesFit, ModesAllowed, Stands}
use Rattle.spec_record_laws.proofs.Whole.{records_are_coded, record_qp, coded_moves}
use Rattle.spec_inter_records.specs.Fits.{TaskFits}
use Rattle.spec_record_laws.proofs.AllowedModes.{coded_allowed}
use Rattle.spec_inter_records.proofs.Carried.{Follows, planned_follows, p_follows, b_follows}
use Rattle.spec_inter_records.proofs.Choices.{Chosen, choice_is}
use Rattle.spec_inter_records.proofs.Predictions.{predicted_fits}

-- the macroblock behind these, and what is around it
abbrev view_at : Task → List MbRecord → View
view_at t before = view_in t.facts t.colocated before

abbrev avail_at : Task → List MbRecord → Avail
avail_at t before = macroblock_avail t.facts.width t.facts.first (t.facts.first + length before)

-- ---- by the kind of least cost

-- an intra macroblock uses no list
coded_small : (width : ℕ) (site : Site) (kind : MbKind) (plan : MbPlan) (source p : Planes) → AllSmall 131 (coded_record width site kind plan source p).motion
unfolding coded_record intra4_record intra8_record intra16_record intra_record
coded_small width site kind plan source p = by (is_16x16 kind) (is_8x8 kind)
  where
    by : (a b : Bool) → AllSmall 131 (cond a (intra16_record (16 * width) site plan.mode16 plan.chroma_mode source p) (cond b (intra8_record (16 * width) site (plan.modes8 ++ replicate 12 0) plan.chroma_mode source p) (intra4_record (16 * width) site plan.modes4 plan.chroma_mode source p))).motion
    by true b = blank_in 131
    by false true = blank_in 131
    by false false = blank_in 131

choice_follows : (t : Task) (before : List MbRecord) (site : Site) (plan : MbPlan) (kind : MbKind) (p : Planes) → TaskFits t → PlanesFit p → Stands (near_in t.facts before) site → ViewSmall 131 (view_at t before)
    → ModesFit plan → ModesAllowed t.facts.t8x8 (avail_at t before) plan → Chosen t.facts.kind t.facts.refs0 t.facts.refs1 t.facts.t8x8 plan kind
    → Follows (avail_at t before) (view_at t before) site.qp (by_choice t site (view_at t before) plan kind p)
unfolding by_choice by_motion near_in
choice_follows t before site plan kind p f g s v m a c = go (is_intra kind) refl
  where
    intra : MbRecord
    intra = coded_record t.facts.width site kind plan t.source p

    inter : MbRecord
    inter = planned (view_at t before) plan kind site.qp

    go : (b : Bool) → is_intra kind ≡ b → Follows (avail_at t before) (view_at t before) site.qp (cond b intra (by_motion t site inter))
    go true e = record {
      belongs = record {
        written = records_are_coded (near_in t.facts before) t.facts.width site kind plan t.source p s (c.intra e) m f.source g;
        motion = coded_moves (view_at t before) t.facts.width site kind plan t.source p;
      };
      allowed = coded_allowed t.facts.t8x8 (avail_at t before) t.facts.width site kind plan t.source p (c.intra e) m a;
      small = λ h. coded_small t.facts.width site kind plan t.source p;
      same = record_qp t.facts.width site kind plan t.source p;
    }
    go false e =
        let i = c.inter e in
        planned_follows (avail_at t before) (view_at t before) (wide t) site kind plan t.source (predicted_planes (wide t) t.sources site inter) s i.0 i.1 f.source (predicted_fits (wide t) t.sources site inter f.sources) v i.2

-- ---- skipped and direct ones before it

slice_follows : (t : Task) (before : List MbRecord) (site : Site) (cost : ℕ) (chosen : MbRecord) (k : SliceKind) → t.facts.kind ≡ k → TaskFits t → Stands (near_in t.facts before) site
    → Follows (avail_at t before) (view_at t before) site.qp chosen → Follows (avail_at t before) (view_at t before) site.qp (in_slice k t site (view_at t before) cost chosen)
unfolding in_p in_b by_motion near_in
slice_follows t before site cost chosen SliceKind.I e f s h = h
slice_follows t before site cost chosen SliceKind.P e f s h =
    let prediction = predicted_planes (wide t) t.sources site (moving MbKind.PSkip site.qp (skip_motion (view_at t before))) in
    p_follows (avail_at t before) (view_at t before) (wide t) site t.source prediction chosen s e f.source (predicted_fits (wide t) t.sources site _ f.sources) h
slice_follows t before site cost chosen SliceKind.B e f s h =
    let direct = moving MbKind.BDirect site.qp (direct_motion (view_at t before)) in
    b_follows (avail_at t before) (view_at t before) (wide t) site t.source (predicted_planes (wide t) t.sources site direct) chosen
    (nat_le (difference_from t site (by_motion t site direct)) cost) s e f.source (predicted_fits (wide t) t.sources site _ f.sources) h

-- ---- the QP

reached_same : (before : ℕ) (mb : MbRecord) → mb.qp ≡ before → reached before mb ≡ mb
reached_same before mb e = go (has_residual mb) before e
  where
    go : (b : Bool) (qp : ℕ) → mb.qp ≡ qp → cond b mb (record mb { qp = qp }) ≡ mb
    go true qp e = refl
    go false qp e = subst (λ (n : ℕ). record mb { qp = n } ≡ mb) e refl

pub next_follows : (t : Task) (before : List MbRecord) (p : Planes) → TaskFits t → PlanesFit p → ViewSmall 131 (view_at t before)
    → Stands (near_in t.facts before) (site_of t.facts.width t.facts.first (t.facts.first + length before) (t.target (t.facts.first + length before)))
    → Follows (avail_at t before) (view_at t before) (t.target (t.facts.first + length before)) (record_after t before p)
unfolding record_after record_at
next_follows t before p f g v s =
    let address : ℕ = t.facts.first + length before in
    let site : Site = site_of t.facts.width t.facts.first address (t.target address) in
    let plan : MbPlan = t.plan address in
    let least : MbKind × ℕ = choice t.facts.kind plan site.qp t.facts.t8x8 in
    let chosen : MbRecord = by_choice t site (view_at t before) plan least.0 p in
    let made : MbRecord = in_slice t.facts.kind t site (view_at t before) least.1 chosen in
    let h = choice_follows t before site plan least.0 p f g s v (f.modes address) (f.allowed address) (choice_is t.facts.kind t.facts.refs0 t.facts.refs1 t.facts.t8x8 plan site.qp (f.parts address)) in
    let follows : Follows (avail_at t before) (view_at t before) site.qp made = slice_follows t before site least.1 chosen t.facts.kind refl f s h in
    subst (λ (mb : MbRecord). Follows (avail_at t before) (view_at t before) site.qp mb) (sym (reached_same (near_in t.facts before).qp made (follows.same ∙ sym s.same_qp))) follows
