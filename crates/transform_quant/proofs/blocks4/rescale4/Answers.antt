use Rattle.std.proofs.Common.{ℤ, sym, subst}
use Rattle.spec_residual.specs.declared.BlockKind.TheVariants.{Luma4}
use Rattle.spec_basics.specs.Bounds.{Within}
use Rattle.spec_residual.specs.Blocks.{item}
use Rattle.spec_residual.proofs.Bounds.{rescaled_small}
use Rattle.transform_quant.proofs.Classes.{luma_scaled, chroma_scaled}
use Rattle.transform_quant.proofs.blocks4.rescale4.Goals as goal

pub returns-clause-luma : goal.returns-clause-luma
returns-clause-luma c p h = luma_scaled c.args.qp p _ _ _ (c.products.ensures p h) (c.factors.ensures.value p h)

pub returns-clause-chroma : goal.returns-clause-chroma
returns-clause-chroma c p h = chroma_scaled c.args.qp p _ _ _ (c.products.ensures p h) (c.factors.ensures.value p h)

pub returns-clause-small : goal.returns-clause-small
returns-clause-small c intra made p h =
    subst (λ (z : ℤ). Within 1048576 z) (sym (luma_scaled c.args.qp p _ _ _ (c.products.ensures p h) (c.factors.ensures.value p h))) (rescaled_small Luma4 intra c.args.qp p (item c.args.levels.now p) c.requires.in_range (made p h))
