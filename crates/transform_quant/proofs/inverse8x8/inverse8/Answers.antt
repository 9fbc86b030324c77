use Rattle.std.proofs.Common.{ℤ, List, arith, sym, ap, ◌∙◌, lit<, lit≤}
use Rattle.spec_residual.specs.Inverse.{inverse8_of}
use Rattle.transform_quant.proofs.Sizes.{all_within_more, all_within_same}
use Rattle.transform_quant.proofs.InverseEight.{inverse8_is, inverse8_small}
use Rattle.transform_quant.proofs.inverse8x8.inverse8.Goals as goal

pub inverse8_pass-rows-requires : goal.inverse8_pass-rows-requires
inverse8_pass-rows-requires c = all_within_more 64 1048576 33554432 _ (lit≤ tt) (all_within_same 64 1048576 _ _ (sym c.coefs.ensures) c.requires)

pub inverse8_pass-requires : goal.inverse8_pass-requires
inverse8_pass-requires c =
    all_within_more 64 16777223 33554432 _ (lit≤ tt) (inverse8_small 1048576 _ _ (all_within_same 64 1048576 _ _ (sym c.coefs.ensures) c.requires) c.inverse8_pass-rows.ensures)

pub sixty_fourths-requires : goal.sixty_fourths-requires
sixty_fourths-requires c =
    (lit< tt, (lit< tt, all_within_more 64 268435575 1000000000 _ (lit≤ tt) (inverse8_small 16777223 _ _ (inverse8_small 1048576 _ _ (all_within_same 64 1048576 _ _ (sym c.coefs.ensures) c.requires) c.inverse8_pass-rows.ensures) c.inverse8_pass.ensures)))

pub returns : goal.returns
returns c =
    inverse8_is _ _ _ _ c.inverse8_pass-rows.ensures c.inverse8_pass.ensures (omega arith) c.sixty_fourths.ensures ∙ ap (λ (l : List ℤ). inverse8_of l) c.coefs.ensures
