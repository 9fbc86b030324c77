use Rattle.std.proofs.Common.{◌∙◌, ℤ, [], sym, subst, ap, w8}
use Rattle.std.proofs.lemmas.Int.{to_z-of_z}
use mir.Val.{SFits}
use Rattle.enc_tables.specs.declared.records.SliceKind.{SliceKind}
use Rattle.enc_tables.specs.declared.records.Vector.{Vector}
use Rattle.spec_motion.specs.declared.Field.{Field}
use Rattle.spec_motion.specs.Prediction.{predicted}
use Rattle.spec_partitions.specs.Small.{Small, FieldSmall}
use Rattle.spec_partitions.proofs.Small.{predicted_small}
use Rattle.inter_coder.proofs.Naming.{list_short}
use Rattle.inter_coder.proofs.Around.{view_of, is_view, view_small, field_small}
use Rattle.inter_coder.proofs.PlanLaws.{part_small, difference_used, difference_unused}
use Rattle.inter_coder.proofs.planned.difference.Goals as goal

pub minus-requires-clause-first : goal.minus-requires-clause-first
minus-requires-clause-first c =
    subst (λ (v : Vector). Small 131 v) (sym c.vector_at-vector.ensures)
    (list_short c.planned_part-planned.result c.args.list c.requires.list (sym c.uses.ensures ∙ c.if-not-uses.false) (part_small 131 c.args.plan.now c.args.shape c.args.part _ c.requires.shape c.requires.part c.planned_part-planned.ensures c.requires.plan))

pub minus-requires-clause-second : goal.minus-requires-clause-second
minus-requires-clause-second c =
    let b = c.args.beside.now in
    let view = view_of SliceKind.P 0 0 [] b in
    let is = is_view SliceKind.P 0 0 [] b in
    subst (λ (v : Vector). Small 131 v) (sym c.predict-predicted.ensures)
    (predicted_small c.args.shape c.args.part c.args.list _ 131 c.part_field-field.result
    (subst (λ (f : Field). FieldSmall 131 c.args.list f) (sym (c.part_field-field.ensures view is)) (field_small 131 view c.args.motion.now (view_small 131 view b is c.requires.short) c.requires.small c.args.list c.args.shape c.args.part c.requires.list c.requires.shape c.requires.part)))

pub returns-then-not-uses : goal.returns-then-not-uses
returns-then-not-uses c view h = difference_unused view c.args.plan.now c.args.shape c.args.list c.args.part c.planned_part-planned.result c.planned_part-planned.ensures (sym c.uses.ensures ∙ c.if-not-uses.true)

pub returns : goal.returns
returns c view h =
    let s : SFits w8 c.reference-index.result = record { sfits = c.reference-index.type_inv } in
    c.minus.ensures
    ∙ difference_used view c.args.plan.now c.args.shape c.args.list c.args.part c.planned_part-planned.result c.args.motion.now c.part_field-field.result c.reference-index.result c.vector_at-vector.result c.predict-predicted.result
    c.planned_part-planned.ensures (sym c.uses.ensures ∙ c.if-not-uses.false) c.requires.motion (c.part_field-field.ensures view h) c.reference-index.ensures c.vector_at-vector.ensures
    (c.predict-predicted.ensures ∙ ap (λ (r : ℤ). predicted c.args.shape c.args.part c.args.list r c.part_field-field.result) (to_z-of_z w8 c.reference-index.result s))
