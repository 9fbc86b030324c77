use Rattle.std.proofs.Common.{ℕ, refl, sym, ap, ◌∙◌}
use Rattle.enc_tables.specs.declared.records.MbKind.{MbKind}
use Rattle.enc_tables.specs.declared.records.MbRecord.{MbRecord}
use Rattle.enc_tables.specs.declared.records.SliceKind.{SliceKind}
use Rattle.spec_coded.specs.Planned.{moving}
use Rattle.spec_coded.specs.Coarsest.{coarsest_in}
use Rattle.spec_partitions.specs.Derived.{skip_motion, direct_motion}
use Rattle.spec_reconstruction.specs.Records.{intra_built}
use Rattle.residual_coder.specs.Stripes.{planes_in}
use Rattle.inter_coder.specs.Given.{count0, count1, sources_in}
use Rattle.slice_coder.proofs.Building.{intra_is}
use Rattle.slice_coder.proofs.CodedMb.{view_from, around_it, with_colocated, around_there, by_mean, mean_qp, mean_intra, built_moving}
use Rattle.slice_coder.proofs.Heads.{some_first, some_both}
use Rattle.slice_coder.proofs.coarsest.code_coarsest.Goals as goal

pub build_flat-requires-clause-in_range : goal.build_flat-requires-clause-in_range
build_flat-requires-clause-in_range c = c.requires.there.qp

pub build_flat-requires-clause-stands : goal.build_flat-requires-clause-stands
build_flat-requires-clause-stands c = c.requires.there.intra

pub returns-in-I-clause-record : goal.returns-in-I-clause-record
returns-in-I-clause-record c view around here = c.build_flat.ensures.record ∙ ap by_mean c.requires.greatest ∙ sym (ap (λ (k : SliceKind). coarsest_in k view) c.in-I.is)

pub returns-in-I-clause-planes : goal.returns-in-I-clause-planes
returns-in-I-clause-planes c first number at =
    c.build_flat.ensures.planes
    ∙ ap (λ (n : ℕ). intra_built n c.args.site.now c.build_flat.result (planes_in c.args.stripe.now)) (c.requires.there.inter.alike ∙ c.requires.across)
    ∙ intra_is c.args.place.now.across (sources_in c.args.pictures.now) first number c.args.site.now c.build_flat.result (planes_in c.args.stripe.now)
    (mean_intra c.args.site.now.qp c.build_flat.result c.build_flat.ensures.record) (ap (λ (r : MbRecord). r.qp) c.build_flat.ensures.record ∙ mean_qp c.args.site.now.qp) at

pub build_p_skip-requires-clause-in_range : goal.build_p_skip-requires-clause-in_range
build_p_skip-requires-clause-in_range c = c.requires.there.qp

pub build_p_skip-requires-clause-stands : goal.build_p_skip-requires-clause-stands
build_p_skip-requires-clause-stands c = c.requires.there.inter

pub build_p_skip-requires-clause-short : goal.build_p_skip-requires-clause-short
build_p_skip-requires-clause-short c = c.requires.there.short

pub returns-in-P-clause-record : goal.returns-in-P-clause-record
returns-in-P-clause-record c view around here = c.build_p_skip.ensures.record view around ∙ ap (λ (qp : ℕ). moving MbKind.PSkip qp (skip_motion view)) c.requires.greatest
    ∙ sym (ap (λ (k : SliceKind). coarsest_in k view) c.in-P.is)

pub returns-in-P-clause-planes : goal.returns-in-P-clause-planes
returns-in-P-clause-planes c first number at =
    c.build_p_skip.ensures.planes
    ∙ built_moving c.args.place.now c.args.pictures.now first number c.args.site.now MbKind.PSkip (skip_motion (view_from c.args.beside.now)) c.build_p_skip.result (planes_in c.args.stripe.now) c.requires.across refl
    (c.build_p_skip.ensures.record (view_from c.args.beside.now) (around_it c.args.beside.now)) at

pub build_b_skip-requires-clause-in_range : goal.build_b_skip-requires-clause-in_range
build_b_skip-requires-clause-in_range c = c.requires.there.qp

pub build_b_skip-requires-clause-stands : goal.build_b_skip-requires-clause-stands
build_b_skip-requires-clause-stands c = c.requires.there.inter

pub build_b_skip-requires-clause-fits : goal.build_b_skip-requires-clause-fits
build_b_skip-requires-clause-fits c = c.requires.there.fits

pub build_b_skip-requires-clause-short : goal.build_b_skip-requires-clause-short
build_b_skip-requires-clause-short c = c.requires.there.short

pub returns-in-B-clause-record : goal.returns-in-B-clause-record
returns-in-B-clause-record c view around here =
    c.build_b_skip.ensures.record view around (here ∙ sym c.colocated_at-colocated.ensures) ∙ ap (λ (qp : ℕ). moving MbKind.BSkip qp (direct_motion view)) c.requires.greatest
    ∙ sym (ap (λ (k : SliceKind). coarsest_in k view) c.in-B.is)

pub returns-in-B-clause-planes : goal.returns-in-B-clause-planes
returns-in-B-clause-planes c first number at =
    let view = with_colocated c.args.beside.now c.colocated_at-colocated.result in
    c.build_b_skip.ensures.planes
    ∙ built_moving c.args.place.now c.args.pictures.now first number c.args.site.now MbKind.BSkip (direct_motion view) c.build_b_skip.result (planes_in c.args.stripe.now) c.requires.across refl
    (c.build_b_skip.ensures.record view (around_there c.args.beside.now c.colocated_at-colocated.result) refl) at

pub build_p_skip-requires-clause-some : goal.build_p_skip-requires-clause-some
build_p_skip-requires-clause-some c = some_first c.args.kind (count0 c.args.pictures.now) (count1 c.args.pictures.now) c.in-P.is c.requires.entries

pub colocated_at-colocated-requires-clause-some : goal.colocated_at-colocated-requires-clause-some
colocated_at-colocated-requires-clause-some c = (some_both c.args.kind (count0 c.args.pictures.now) (count1 c.args.pictures.now) c.in-B.is c.requires.entries).1

pub build_b_skip-requires-clause-some : goal.build_b_skip-requires-clause-some
build_b_skip-requires-clause-some c = some_both c.args.kind (count0 c.args.pictures.now) (count1 c.args.pictures.now) c.in-B.is c.requires.entries
