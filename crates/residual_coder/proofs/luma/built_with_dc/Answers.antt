use Rattle.std.proofs.Common.{ℤ, set, arith, sym, subst, ap, ◌∙◌, w32}
use Rattle.std.proofs.lemmas.Int.{to_z-of_z}
use Rattle.spec_basics.specs.Bounds.{Within}
use Rattle.spec_residual.specs.Inverse.{inverse4_of}
use Rattle.residual_coder.proofs.BlockLaws.{built_with_dc_is, set_within}
use Rattle.residual_coder.proofs.luma.built_with_dc.Goals as goal

pub inverse4-requires : goal.inverse4-requires
inverse4-requires c =
    let P : ℤ → Type 0 = λ z. Within 1048576 z in
    set_within 16 1048576 0 _ c.rescaled4-coefficients.result (omega arith)
    (subst P (sym (to_z-of_z w32 c.args.dc c.ranges.dc)) c.requires.dc)
    (c.rescaled4-coefficients.ensures.small c.requires.quantised.intra c.requires.quantised.made)

pub returns : goal.returns
returns c =
    built_with_dc_is c.args.kind c.args.qp c.args.dc c.args.levels.now c.rescaled4-coefficients.result c.inverse4.result c.args.prediction.now _
    c.rescaled4-coefficients.ensures.value
    (c.inverse4.ensures ∙ ap (λ (z : ℤ). inverse4_of (set c.rescaled4-coefficients.result 0 z)) (to_z-of_z w32 c.args.dc c.ranges.dc))
    c.constructed.ensures
