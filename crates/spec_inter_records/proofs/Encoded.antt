-- The records that the encoder makes over a whole prediction are records of the syntax, with the motion that a decoder derives.
use Rattle.std.proofs.Common.{◌≡◌, ◌<◌, ◌&&◌, ℕ, ℤ, true, List, lit≤, lit<}
use Rattle.std.specs.Prelude.{◌==◌}
use Rattle.std.proofs.lemmas.Bool.{eqb-true, and_parts}
use Rattle.enc_tables.specs.declared.records.MbKind.{MbKind}
use Rattle.enc_tables.specs.declared.records.MbPlan.{MbPlan}
use Rattle.enc_tables.specs.declared.records.MbRecord.{MbRecord}
use Rattle.enc_tables.specs.declared.records.SliceKind.{SliceKind}
use Rattle.enc_tables.specs.Records.{blank_record}
use Rattle.enc_tables.specs.Kinds.{has_motion}
use Rattle.spec_film.specs.Films.{Planes}
use Rattle.spec_partitions.specs.Near.{View}
use Rattle.spec_partitions.specs.Partitions.{shape_of, part_count}
use Rattle.spec_partitions.specs.Derived.{skip_motion, direct_motion}
use Rattle.spec_partitions.specs.Records.{is_in}
use Rattle.spec_partitions.specs.Small.{ViewSmall}
use Rattle.spec_partitions.proofs.ByPart.{each_part, shape_small}
use Rattle.spec_reconstruction.specs.declared.Site.{Site}
use Rattle.spec_reconstruction.specs.Records.{luma_pattern, chroma_pattern}
use Rattle.spec_coded.specs.Planned.{plan_place, planned_ref, planned_vector, moving, planned}
use Rattle.spec_coded.specs.Levels.{with_levels, levelled, is_blank}
use Rattle.spec_record_laws.specs.Coded.{PlanesFit, Stands}
use Rattle.spec_inter_records.specs.Fits.{PartsChosen, Belongs}
use Rattle.spec_inter_records.proofs.Made.{inter_record, NoLevels}
use Rattle.spec_inter_records.proofs.WholeLevels.{whole_fits, whole_flag_fits}
use Rattle.spec_inter_records.proofs.Skips.{p_skip_fits, p_skip_moves, b_skip_fits, b_skip_moves, b_direct_fits, b_direct_moves}
use Rattle.spec_inter_records.proofs.Partitioned.{FieldsChosen, coded_parts_fit, coded_parts_move}

none_in : (luma dc ac : List ℤ) → ((luma_pattern luma == 0) && (chroma_pattern dc ac == 0)) ≡ true → NoLevels luma dc ac
none_in luma dc ac e = let p = and_parts _ _ e in record { luma_none = eqb-true _ 0 p.0; chroma_none = eqb-true _ 0 p.1 }

-- P_Skip, B_Skip and B_Direct_16x16 over a prediction
abbrev pub skipped_of : ℕ → View → Site → Planes → Planes → MbRecord
skipped_of wide view site source prediction = levelled wide site view.near.t8x8 source prediction (moving MbKind.PSkip site.qp (skip_motion view))

abbrev pub direct_in : ℕ → View → Site → Planes → Planes → MbRecord
direct_in wide view site source prediction = levelled wide site view.near.t8x8 source prediction (moving MbKind.BDirect site.qp (direct_motion view))

pub p_skip_belongs : (view : View) (wide : ℕ) (site : Site) (source prediction : Planes) → Stands view.near site → view.near.kind ≡ SliceKind.P → PlanesFit source → PlanesFit prediction
    → is_blank (skipped_of wide view site source prediction) ≡ true → Belongs view (skipped_of wide view site source prediction)
unfolding levelled with_levels inter_record blank_record
p_skip_belongs view wide site source prediction s slice g h blank = record {
  written = p_skip_fits view.near site _ _ _ _ _ s slice (whole_fits wide site view.near.t8x8 source prediction g h) (whole_flag_fits wide site view.near.t8x8 source.luma prediction.luma) (none_in _ _ _ blank);
  motion = p_skip_moves view _ _ site.qp _ _ _;
}

pub b_skip_belongs : (view : View) (wide : ℕ) (site : Site) (source prediction : Planes) → Stands view.near site → view.near.kind ≡ SliceKind.B → PlanesFit source → PlanesFit prediction
    → is_blank (direct_in wide view site source prediction) ≡ true → Belongs view (record (direct_in wide view site source prediction) { kind = MbKind.BSkip })
unfolding levelled with_levels inter_record blank_record
b_skip_belongs view wide site source prediction s slice g h blank = record {
  written = b_skip_fits view.near site _ _ _ _ _ s slice (whole_fits wide site view.near.t8x8 source prediction g h) (whole_flag_fits wide site view.near.t8x8 source.luma prediction.luma) (none_in _ _ _ blank);
  motion = b_skip_moves view _ _ site.qp _ _ _;
}

pub b_direct_belongs : (view : View) (wide : ℕ) (site : Site) (source prediction : Planes) → Stands view.near site → view.near.kind ≡ SliceKind.B → PlanesFit source → PlanesFit prediction
    → Belongs view (direct_in wide view site source prediction)
unfolding levelled with_levels inter_record blank_record
b_direct_belongs view wide site source prediction s slice g h = record {
  written = b_direct_fits view.near site _ _ _ _ _ s slice (whole_fits wide site view.near.t8x8 source prediction g h) (whole_flag_fits wide site view.near.t8x8 source.luma prediction.luma);
  motion = b_direct_moves view _ _ site.qp _ _ _;
}

-- ---- planned partitions

place_inside : (shape part : ℕ) → shape < 4 → part < part_count shape → plan_place shape part < 9
place_inside = each_part (λ shape part. plan_place shape part < 9) (lit< tt) (lit< tt) (lit< tt) (lit< tt) (lit< tt) (lit< tt) (lit< tt) (lit< tt) (lit< tt)

pub fields_chosen : (view : View) (most : ℕ) (plan : MbPlan) (shape : ℕ) → shape < 4 → PartsChosen view.near.kind view.near.refs0 view.near.refs1 most plan
    → FieldsChosen view.near most shape (planned_ref plan shape 0) (planned_ref plan shape 1) (planned_vector plan shape 0) (planned_vector plan shape 1)
fields_chosen view most plan shape small p = record {
  first = λ part lt. (p.at (plan_place shape part) (place_inside shape part small lt)).first;
  second = λ part lt. (p.at (plan_place shape part) (place_inside shape part small lt)).second;
  uses = λ part lt. (p.at (plan_place shape part) (place_inside shape part small lt)).uses;
  small0 = λ part lt. (p.at (plan_place shape part) (place_inside shape part small lt)).small0;
  small1 = λ part lt. (p.at (plan_place shape part) (place_inside shape part small lt)).small1;
  unused0 = λ part lt. (p.at (plan_place shape part) (place_inside shape part small lt)).unused0;
  unused1 = λ part lt. (p.at (plan_place shape part) (place_inside shape part small lt)).unused1;
}

-- vectors of at most 131
pub planned_belongs : (view : View) (wide : ℕ) (site : Site) (kind : MbKind) (plan : MbPlan) (source prediction : Planes)
    → Stands view.near site → has_motion kind ≡ true → is_in view.near.kind kind ≡ true → PlanesFit source → PlanesFit prediction
    → ViewSmall 131 view → PartsChosen view.near.kind view.near.refs0 view.near.refs1 131 plan
    → Belongs view (levelled wide site view.near.t8x8 source prediction (planned view plan kind site.qp))
unfolding levelled with_levels planned inter_record blank_record
planned_belongs view wide site kind plan source prediction s moves here g h v c =
    let shape = shape_of kind in
    let r0 = planned_ref plan shape 0 in
    let r1 = planned_ref plan shape 1 in
    let v0 = planned_vector plan shape 0 in
    let v1 = planned_vector plan shape 1 in
    let p = fields_chosen view 131 plan shape (shape_small kind) c in
    record {
      written = coded_parts_fit view site 131 kind _ r0 r1 v0 v1 _ _ _ s moves here (whole_fits wide site view.near.t8x8 source prediction g h) (whole_flag_fits wide site view.near.t8x8 source.luma prediction.luma) (lit≤ tt) v p;
      motion = coded_parts_move view 131 kind _ r0 r1 v0 v1 site.qp _ _ _ moves p;
    }
