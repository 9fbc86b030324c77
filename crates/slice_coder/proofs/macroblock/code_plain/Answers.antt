use Rattle.std.proofs.Common.{◌≡◌, ℕ, Option, sym, ap, subst, ◌∙◌}
use Rattle.std.specs.Prelude.{IfSome}
use Rattle.enc_tables.specs.declared.records.MbKind.{MbKind}
use Rattle.enc_tables.specs.declared.records.MbRecord.{MbRecord}
use Rattle.spec_film.specs.Films.{Planes}
use Rattle.spec_coded.specs.Tasks.{by_choice}
use Rattle.spec_inter_records.proofs.Choices.{Chosen, choice_is}
use Rattle.residual_coder.specs.Stripes.{planes_in}
use Rattle.inter_coder.specs.Given.{count0, count1}
use Rattle.slice_coder.specs.Given.{task_in, taken_or}
use Rattle.slice_coder.proofs.CodedMb.{planned_for, record_is}
use Rattle.slice_coder.proofs.macroblock.code_plain.Goals as goal

pub returns-in-Some-clause-record : goal.returns-in-Some-clause-record
returns-in-Some-clause-record c h plans view around here kind qp =
    let chosen : MbRecord = by_choice (task_in c.args.place.now h c.args.pictures.now plans) c.args.site.now view c.args.plan.now c.choose-least.result.0 (planes_in c.args.stripe.now) in
    record_is (task_in c.args.place.now h c.args.pictures.now plans) c.args.site.now view c.args.plan.now (planes_in c.args.stripe.now) c.args.kind c.choose-least.result c.in-Some.mb kind c.choose-least.ensures
    (c.code_moving.ensures.record h plans view chosen around here ∙ ap (λ (o : Option MbRecord). taken_or chosen o) c.in-Some.is)
    (subst (λ (o : Option MbRecord). IfSome o (λ mb. mb.qp ≡ c.args.site.now.qp)) c.in-Some.is c.code_moving.ensures.qp) qp

pub code_chosen-requires-clause-inter : goal.code_chosen-requires-clause-inter
code_chosen-requires-clause-inter c e =
    planned_for c.args.kind (count0 c.args.pictures.now) (count1 c.args.pictures.now) c.args.place.now.t8x8 c.args.plan.now c.choose-least.result.0
    (subst (λ (x : MbKind × ℕ). Chosen c.args.kind (count0 c.args.pictures.now) (count1 c.args.pictures.now) c.args.place.now.t8x8 c.args.plan.now x.0) (sym c.choose-least.ensures)
    (choice_is c.args.kind (count0 c.args.pictures.now) (count1 c.args.pictures.now) c.args.place.now.t8x8 c.args.plan.now c.args.site.now.qp c.requires.parts)) e

pub returns-clause-record : goal.returns-clause-record
returns-clause-record c h plans view around here kind qp =
    let chosen : MbRecord = by_choice (task_in c.args.place.now h c.args.pictures.now plans) c.args.site.now view c.args.plan.now c.choose-least.result.0 (planes_in c.args.stripe.now) in
    record_is (task_in c.args.place.now h c.args.pictures.now plans) c.args.site.now view c.args.plan.now (planes_in c.args.stripe.now) c.args.kind c.choose-least.result c.code_chosen.result kind c.choose-least.ensures
    (c.code_moving.ensures.record h plans view chosen around here ∙ ap (λ (o : Option MbRecord). taken_or chosen o) c.in_default.is
    ∙ ap (λ (p : Planes). by_choice (task_in c.args.place.now h c.args.pictures.now plans) c.args.site.now view c.args.plan.now c.choose-least.result.0 p) (sym (c.code_moving.ensures.unchanged c.in_default.is))
    ∙ sym (c.code_chosen.ensures.record h plans view around))
    c.code_chosen.ensures.qp qp
