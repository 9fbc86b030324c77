-- What the encoder makes follows, so that the next macroblock finds small vectors around it.
use Rattle.std.proofs.Common.{◌≡◌, ℕ, Bool, true, false, cond, List, refl, ap}
use Rattle.std.specs.Prelude.{if◌then◌else◌}
use Rattle.enc_tables.specs.declared.records.MbKind.{MbKind}
use Rattle.enc_tables.specs.declared.records.MbPlan.{MbPlan}
use Rattle.enc_tables.specs.declared.records.MbRecord.{MbRecord}
use Rattle.enc_tables.specs.declared.records.SliceKind.{SliceKind}
use Rattle.enc_tables.specs.Records.{blank_record}
use Rattle.enc_tables.specs.Kinds.{is_intra, has_motion}
use Rattle.spec_film.specs.Films.{Planes}
use Rattle.spec_intra.specs.declared.Avail.{Avail}
use Rattle.spec_intra.specs.Predictions.{is_allowed_chroma}
use Rattle.spec_partitions.specs.Near.{View}
use Rattle.spec_partitions.specs.Partitions.{shape_of}
use Rattle.spec_partitions.specs.Records.{is_in}
use Rattle.spec_partitions.specs.Small.{AllSmall, ViewSmall}
use Rattle.spec_partitions.proofs.ByPart.{shape_small}
use Rattle.spec_reconstruction.specs.declared.Site.{Site}
use Rattle.spec_slice_payload.specs.Allowed.{luma_allowed, modes_allowed}
use Rattle.spec_coded.specs.Planned.{planned_ref, planned_vector, planned}
use Rattle.spec_coded.specs.Levels.{with_levels, levelled, is_blank}
use Rattle.spec_record_laws.specs.Coded.{PlanesFit, Stands}
use Rattle.spec_inter_records.specs.Fits.{PartsChosen, Belongs}
use Rattle.spec_record_laws.proofs.AllowedModes.{both}
use Rattle.spec_inter_records.proofs.Differences.{given_small}
use Rattle.spec_inter_records.proofs.Partitioned.{moves_not_intra}
use Rattle.spec_inter_records.proofs.Encoded.{skipped_of, direct_in, p_skip_belongs, b_skip_belongs, b_direct_belongs, fields_chosen, planned_belongs}

-- a record that belongs behind those before it, its own partitions' vectors small, its QP the one before
pub record Follows (avail : Avail) (view : View) (qp : ℕ) (mb : MbRecord) : Type 0 where
  pub belongs : Belongs view mb
  pub allowed : modes_allowed avail mb ≡ true
  pub small : has_motion mb.kind ≡ true → AllSmall 131 mb.motion
  pub same : mb.qp ≡ qp

luma_none : (k : MbKind) (avail : Avail) (modes : List ℕ) → is_intra k ≡ false → luma_allowed k avail modes ≡ true
luma_none MbKind.Pcm avail modes e = absurd cc
luma_none MbKind.Intra4 avail modes e = absurd cc
luma_none MbKind.Intra8 avail modes e = absurd cc
luma_none MbKind.Intra16 avail modes e = absurd cc
luma_none _ avail modes e = refl

-- inter macroblocks have no modes
pub inter_allowed : (avail : Avail) (mb : MbRecord) → is_intra mb.kind ≡ false → mb.chroma_mode ≡ 0 → modes_allowed avail mb ≡ true
unfolding modes_allowed
inter_allowed avail mb e c = both _ _ (luma_none mb.kind avail mb.modes e) (ap (λ (m : ℕ). is_allowed_chroma m avail) c)

pub planned_follows : (avail : Avail) (view : View) (wide : ℕ) (site : Site) (kind : MbKind) (plan : MbPlan) (source prediction : Planes)
    → Stands view.near site → has_motion kind ≡ true → is_in view.near.kind kind ≡ true → PlanesFit source → PlanesFit prediction
    → ViewSmall 131 view → PartsChosen view.near.kind view.near.refs0 view.near.refs1 131 plan
    → Follows avail view site.qp (levelled wide site view.near.t8x8 source prediction (planned view plan kind site.qp))
unfolding levelled with_levels planned blank_record
planned_follows avail view wide site kind plan source prediction s moves here g h v c =
    let shape = shape_of kind in
    let p = fields_chosen view 131 plan shape (shape_small kind) c in
    record {
      belongs = planned_belongs view wide site kind plan source prediction s moves here g h v c;
      allowed = inter_allowed avail (levelled wide site view.near.t8x8 source prediction (planned view plan kind site.qp)) (moves_not_intra kind moves) refl;
      small = λ e. given_small 131 shape (planned_ref plan shape 0) (planned_ref plan shape 1) (planned_vector plan shape 0) (planned_vector plan shape 1) (shape_small kind) p.small0 p.small1;
      same = refl;
    }

pub p_follows : (avail : Avail) (view : View) (wide : ℕ) (site : Site) (source prediction : Planes) (chosen : MbRecord) → Stands view.near site → view.near.kind ≡ SliceKind.P → PlanesFit source → PlanesFit prediction → Follows avail view site.qp chosen
    → Follows avail view site.qp (if is_blank (skipped_of wide view site source prediction) then skipped_of wide view site source prediction else chosen)
unfolding levelled with_levels blank_record
p_follows avail view wide site source prediction chosen s slice g h other = go (is_blank skipped) refl
  where
    skipped : MbRecord
    skipped = skipped_of wide view site source prediction

    go : (b : Bool) → is_blank skipped ≡ b → Follows avail view site.qp (cond b skipped chosen)
    go true e = record { belongs = p_skip_belongs view wide site source prediction s slice g h e; allowed = inter_allowed avail skipped refl refl; small = λ m. absurd cc; same = refl }
    go false e = other

pub b_follows : (avail : Avail) (view : View) (wide : ℕ) (site : Site) (source prediction : Planes) (chosen : MbRecord) (cheaper : Bool) → Stands view.near site → view.near.kind ≡ SliceKind.B → PlanesFit source → PlanesFit prediction → Follows avail view site.qp chosen
    → Follows avail view site.qp (if is_blank (direct_in wide view site source prediction) then record (direct_in wide view site source prediction) { kind = MbKind.BSkip } else if cheaper then direct_in wide view site source prediction else chosen)
unfolding levelled with_levels blank_record
b_follows avail view wide site source prediction chosen cheaper s slice g h other = go (is_blank direct) refl cheaper
  where
    direct : MbRecord
    direct = direct_in wide view site source prediction

    go : (b : Bool) → is_blank direct ≡ b → (c : Bool) → Follows avail view site.qp (cond b (record direct { kind = MbKind.BSkip }) (cond c direct chosen))
    go true e c = record { belongs = b_skip_belongs view wide site source prediction s slice g h e; allowed = inter_allowed avail (record direct { kind = MbKind.BSkip }) refl refl; small = λ m. absurd cc; same = refl }
    go false e true = record { belongs = b_direct_belongs view wide site source prediction s slice g h; allowed = inter_allowed avail direct refl refl; small = λ m. absurd cc; same = refl }
    go false e false = other
