use Rattle.std.proofs.Common.{ℕ, sym, ap, ◌∙◌}
use Rattle.enc_tables.specs.declared.records.MbRecord.{MbRecord}
use Rattle.enc_tables.specs.declared.records.MbKind.{MbKind}
use Rattle.enc_tables.specs.Kinds.{is_intra}
use Rattle.picture_planes.specs.Pictures.{planes_of}
use Rattle.spec_coded.specs.Planned.{planned}
use Rattle.spec_reconstruction.specs.Records.{intra_built}
use Rattle.spec_record_laws.proofs.Whole.{record_qp}
use Rattle.residual_coder.specs.Stripes.{planes_in}
use Rattle.inter_coder.specs.Given.{sources_in}
use Rattle.slice_coder.specs.Given.{task_in}
use Rattle.slice_coder.proofs.Building.{built_is}
use Rattle.slice_coder.proofs.CodedMb.{chosen_intra, chosen_inter, motion_is, made_kind, made_qp, planned_kind, planned_qp, view_from, around_it, built_inter}
use Rattle.slice_coder.proofs.macroblock.code_chosen.Goals as goal

pub code_by_plan-requires-clause-in_range : goal.code_by_plan-requires-clause-in_range
code_by_plan-requires-clause-in_range c = c.requires.there.qp

pub code_by_plan-requires-clause-stands : goal.code_by_plan-requires-clause-stands
code_by_plan-requires-clause-stands c = c.requires.there.intra

pub code_by_plan-requires-clause-source : goal.code_by_plan-requires-clause-source
code_by_plan-requires-clause-source c = c.requires.there.source

pub code_planned-requires-clause-in_range : goal.code_planned-requires-clause-in_range
code_planned-requires-clause-in_range c = c.requires.there.qp

pub code_planned-requires-clause-stands : goal.code_planned-requires-clause-stands
code_planned-requires-clause-stands c = c.requires.there.inter

pub code_planned-requires-clause-kind : goal.code_planned-requires-clause-kind
code_planned-requires-clause-kind c = (c.requires.inter (sym c.is_intra.ensures ∙ c.if-is_intra.false)).moves

pub code_planned-requires-clause-plan : goal.code_planned-requires-clause-plan
code_planned-requires-clause-plan c = (c.requires.inter (sym c.is_intra.ensures ∙ c.if-is_intra.false)).fits

pub code_planned-requires-clause-short_plan : goal.code_planned-requires-clause-short_plan
code_planned-requires-clause-short_plan c = (c.requires.inter (sym c.is_intra.ensures ∙ c.if-is_intra.false)).small

pub code_planned-requires-clause-short : goal.code_planned-requires-clause-short
code_planned-requires-clause-short c = c.requires.there.short

pub returns-then-is_intra-clause-record : goal.returns-then-is_intra-clause-record
returns-then-is_intra-clause-record c h plans view around =
    c.code_by_plan.ensures.record c.args.place.now.across (c.requires.there.inter.alike ∙ c.requires.across)
    ∙ chosen_intra (task_in c.args.place.now h c.args.pictures.now plans) c.args.site.now view c.args.plan.now c.args.kind (planes_in c.args.stripe.now) (sym c.is_intra.ensures ∙ c.if-is_intra.true)

pub returns-then-is_intra-clause-qp : goal.returns-then-is_intra-clause-qp
returns-then-is_intra-clause-qp c =
    ap (λ (r : MbRecord). r.qp) (c.code_by_plan.ensures.record c.args.place.now.across (c.requires.there.inter.alike ∙ c.requires.across))
    ∙ record_qp c.args.place.now.across c.args.site.now c.args.kind c.args.plan.now (planes_of c.args.pictures.now.source.now) (planes_in c.args.stripe.now)

pub returns-then-is_intra-clause-planes : goal.returns-then-is_intra-clause-planes
returns-then-is_intra-clause-planes c first address at =
    c.code_by_plan.ensures.planes
    ∙ ap (λ (n : ℕ). intra_built n c.args.site.now c.code_by_plan.result (planes_in c.args.stripe.now)) (c.requires.there.inter.alike ∙ c.requires.across)
    ∙ built_is c.args.place.now.across (sources_in c.args.pictures.now) first address c.args.site.now c.args.kind c.args.plan.now (planes_of c.args.pictures.now.source.now) (planes_in c.args.stripe.now) (planes_in c.args.stripe.now) c.code_by_plan.result
    (c.code_by_plan.ensures.record c.args.place.now.across (c.requires.there.inter.alike ∙ c.requires.across)) at

pub returns-clause-record : goal.returns-clause-record
returns-clause-record c h plans view around =
    c.code_planned.ensures.record view around
    ∙ motion_is c.args.place.now h c.args.pictures.now plans c.args.site.now (planned view c.args.plan.now c.args.kind c.args.site.now.qp) c.requires.across
    ∙ chosen_inter (task_in c.args.place.now h c.args.pictures.now plans) c.args.site.now view c.args.plan.now c.args.kind (planes_in c.args.stripe.now) (sym c.is_intra.ensures ∙ c.if-is_intra.false)

pub returns-clause-qp : goal.returns-clause-qp
returns-clause-qp c =
    let mb : MbRecord = planned (view_from c.args.beside.now) c.args.plan.now c.args.kind c.args.site.now.qp in
    ap (λ (r : MbRecord). r.qp) (c.code_planned.ensures.record (view_from c.args.beside.now) (around_it c.args.beside.now))
    ∙ made_qp c.args.pictures.now c.args.place.now.t8x8 c.args.site.now mb
    ∙ planned_qp (view_from c.args.beside.now) c.args.plan.now c.args.kind c.args.site.now.qp

pub returns-clause-planes : goal.returns-clause-planes
returns-clause-planes c first address at =
    let mb : MbRecord = planned (view_from c.args.beside.now) c.args.plan.now c.args.kind c.args.site.now.qp in
    let is = c.code_planned.ensures.record (view_from c.args.beside.now) (around_it c.args.beside.now) in
    c.code_planned.ensures.planes
    ∙ built_inter c.args.place.now c.args.pictures.now first address c.args.site.now c.code_planned.result (planes_in c.args.stripe.now) c.requires.across
    (ap (λ (r : MbRecord). is_intra r.kind) is ∙ ap (λ (k : MbKind). is_intra k) (made_kind c.args.pictures.now c.args.place.now.t8x8 c.args.site.now mb ∙ planned_kind (view_from c.args.beside.now) c.args.plan.now c.args.kind c.args.site.now.qp) ∙ sym c.is_intra.ensures ∙ c.if-is_intra.false)
    (ap (λ (r : MbRecord). r.qp) is ∙ made_qp c.args.pictures.now c.args.place.now.t8x8 c.args.site.now mb ∙ planned_qp (view_from c.args.beside.now) c.args.plan.now c.args.kind c.args.site.now.qp) at
