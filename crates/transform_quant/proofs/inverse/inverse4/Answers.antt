use Rattle.std.proofs.Common.{ℤ, List, arith, sym, ap, ◌∙◌, lit<, lit≤}
use Rattle.spec_residual.specs.Inverse.{inverse4_of}
use Rattle.transform_quant.proofs.Sizes.{all_within_more, all_within_same}
use Rattle.transform_quant.proofs.InversePasses.{inverse4_is, inverse4_small}
use Rattle.transform_quant.proofs.inverse.inverse4.Goals as goal

pub inverse4_pass-rows-requires : goal.inverse4_pass-rows-requires
inverse4_pass-rows-requires c = all_within_more 16 1048576 40000000 _ (lit≤ tt) (all_within_same 16 1048576 _ _ (sym c.coefs.ensures) c.requires)

pub inverse4_pass-requires : goal.inverse4_pass-requires
inverse4_pass-requires c =
    all_within_more 16 4194306 40000000 _ (lit≤ tt) (inverse4_small 1048576 _ _ (all_within_same 16 1048576 _ _ (sym c.coefs.ensures) c.requires) c.inverse4_pass-rows.ensures)

pub sixty_fourths-requires : goal.sixty_fourths-requires
sixty_fourths-requires c =
    (lit< tt, (lit< tt, all_within_more 16 16777226 1000000000 _ (lit≤ tt) (inverse4_small 4194306 _ _ (inverse4_small 1048576 _ _ (all_within_same 16 1048576 _ _ (sym c.coefs.ensures) c.requires) c.inverse4_pass-rows.ensures) c.inverse4_pass.ensures)))

pub returns : goal.returns
returns c =
    inverse4_is _ _ _ _ c.inverse4_pass-rows.ensures c.inverse4_pass.ensures (omega arith) c.sixty_fourths.ensures ∙ ap (λ (l : List ℤ). inverse4_of l) c.coefs.ensures
