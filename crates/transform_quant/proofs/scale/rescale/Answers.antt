use Rattle.std.proofs.Common.{ℤ, ◌∙◌, sym, ap, subst, w32}
use Rattle.std.proofs.lemmas.Int.{to_z-of_z}
use mir.Val.{SFits}
use Rattle.spec_basics.specs.Bounds.{Within}
use Rattle.spec_residual.specs.Rescaled.{rescaled}
use Rattle.spec_residual.proofs.Bounds.{rescaled_small}
use Rattle.transform_quant.proofs.scale.rescale.Goals as goal

pub returns-clause-small : goal.returns-clause-small
returns-clause-small c intra made =
    let f : SFits w32 c.get.result = record { sfits = c.get.type_inv } in
    let e = to_z-of_z w32 c.get.result f ∙ c.get.ensures ∙ c.coefficient.ensures.value ∙ ap (λ (z : ℤ). rescaled c.args.kind c.args.qp c.args.place z) (c.new.ensures ∙ to_z-of_z w32 c.args.level c.ranges.level) in
    subst (λ (z : ℤ). Within 1048576 z) (sym e) (rescaled_small c.args.kind intra c.args.qp c.args.place c.args.level c.requires.in_range made)
