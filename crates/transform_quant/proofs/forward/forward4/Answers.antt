use Rattle.std.proofs.Common.{ℤ, List, arith, sym, ◌∙◌, subst, ap, lit<, lit≤}
use Rattle.spec_basics.specs.Bounds.{Within}
use Rattle.spec_residual.specs.Blocks.{item}
use Rattle.spec_residual.specs.Forward.{forward4_of}
use Rattle.transform_quant.proofs.Sizes.{all_within_more, all_within_same}
use Rattle.transform_quant.proofs.ForwardPasses.{forward4_is, forward4_rows_small, forward4_small, forward4_first_small}
use Rattle.transform_quant.proofs.forward.forward4.Goals as goal

pub forward4_pass-requires : goal.forward4_pass-requires
forward4_pass-requires c =
    all_within_more 16 1530 100000 _ (lit≤ tt) (forward4_rows_small _ _ (all_within_same 16 255 _ _ (sym c.widened.ensures) c.requires) c.forward4_pass-rows.ensures)

pub numbers-requires : goal.numbers-requires
numbers-requires c =
    (lit< tt, (lit< tt, all_within_more 16 9180 2147483647 _ (lit≤ tt) (forward4_small _ _ _ (all_within_same 16 255 _ _ (sym c.widened.ensures) c.requires) c.forward4_pass-rows.ensures c.forward4_pass.ensures)))

pub returns-clause-value : goal.returns-clause-value
returns-clause-value c =
    c.numbers.ensures ∙ forward4_is _ _ _ c.forward4_pass-rows.ensures c.forward4_pass.ensures (omega arith) ∙ ap (λ (l : List ℤ). forward4_of l) c.widened.ensures

pub returns-clause-small : goal.returns-clause-small
returns-clause-small c =
    all_within_same 16 9180 _ _ (sym c.numbers.ensures) (forward4_small _ _ _ (all_within_same 16 255 _ _ (sym c.widened.ensures) c.requires) c.forward4_pass-rows.ensures c.forward4_pass.ensures)

pub returns-clause-first : goal.returns-clause-first
returns-clause-first c =
    subst (λ (l : List ℤ). Within 4080 (item l 0)) (sym c.numbers.ensures) (forward4_first_small _ _ _ (all_within_same 16 255 _ _ (sym c.widened.ensures) c.requires) c.forward4_pass-rows.ensures c.forward4_pass.ensures)
