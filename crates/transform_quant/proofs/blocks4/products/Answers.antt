use Rattle.std.proofs.Common.{ℤ, arith, subst, sym}
use Rattle.spec_basics.specs.Bounds.{Within}
use Rattle.transform_quant.proofs.Classes.{product_within}
use Rattle.transform_quant.proofs.blocks4.products.Goals as goal

pub scaled-requires-clause-fits : goal.scaled-requires-clause-fits
scaled-requires-clause-fits c =
    product_within _ _ _ c.new.ensures (c.requires.in_levels c.loop-p.p (omega arith)) (c.requires.in_factors c.loop-p.p (omega arith))

pub get-requires : goal.get-requires
get-requires c =
    subst (λ (z : ℤ). Within 2147483647 z) (sym c.scaled.ensures) (product_within _ _ _ c.new.ensures (c.requires.in_levels c.loop-p.p (omega arith)) (c.requires.in_factors c.loop-p.p (omega arith)))
