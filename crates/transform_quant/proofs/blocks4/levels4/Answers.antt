use Rattle.std.proofs.Common.{ℤ, arith, sym, subst}
use Rattle.spec_basics.specs.Bounds.{Within}
use Rattle.spec_residual.specs.Blocks.{item}
use Rattle.spec_residual.proofs.Bounds.{multiplier_at_most, rounding_at_most, sizes_fit, level_small}
use Rattle.transform_quant.proofs.Classes.{levels_are}
use Rattle.transform_quant.proofs.blocks4.levels4.Goals as goal

pub signed_levels-requires-clause-in_multipliers : goal.signed_levels-requires-clause-in_multipliers
signed_levels-requires-clause-in_multipliers c p h = rw (c.multipliers.ensures p h) (multiplier_at_most c.args.kind c.args.qp p)

pub signed_levels-requires-clause-in_rounding : goal.signed_levels-requires-clause-in_rounding
signed_levels-requires-clause-in_rounding c = rw c.rounding_of.ensures (rounding_at_most c.args.kind c.args.intra c.args.qp c.requires.in_range)

pub signed_levels-requires-clause-fits : goal.signed_levels-requires-clause-fits
signed_levels-requires-clause-fits c p h =
    let l = sizes_fit c.args.kind c.args.intra c.args.qp p in
    rw (c.multipliers.ensures p h, c.rounding_of.ensures, c.shift_of.ensures.value) (omega arith)

pub returns-clause-value : goal.returns-clause-value
returns-clause-value c p h =
    levels_are c.args.kind c.args.intra c.args.qp p _ _ _ _ _ (c.signed_levels.ensures p h) (c.multipliers.ensures p h) c.rounding_of.ensures c.shift_of.ensures.value

pub returns-clause-small : goal.returns-clause-small
returns-clause-small c small p h =
    subst (λ (z : ℤ). Within 8191 z) (sym (levels_are c.args.kind c.args.intra c.args.qp p _ _ _ _ _ (c.signed_levels.ensures p h) (c.multipliers.ensures p h) c.rounding_of.ensures c.shift_of.ensures.value)) (level_small c.args.kind c.args.intra c.args.qp p (item c.args.c.now p) (small p h))
