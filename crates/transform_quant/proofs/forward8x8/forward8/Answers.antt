use Rattle.std.proofs.Common.{◌≡◌, ◌<◌, ◌/◌, ◌%◌, ℕ, ℤ, List, length, arith, sym, ◌∙◌, ap, lit<, lit≤}
use Rattle.enc_tables.specs.declared.transform.TheConstants.{FORWARD8}
use Rattle.spec_residual.specs.Blocks.{AllWithin, item, rounded, block, transformed, rows_of}
use Rattle.spec_residual.specs.Forward.{forward8_of}
use Rattle.transform_quant.specs.Lines.{forward8_line, row8_by, Turned8}
use Rattle.transform_quant.proofs.Shifts.{mapped_listed, mapped_within, sixty_fourths_within}
use Rattle.transform_quant.proofs.Sizes.{all_within_more, all_within_same}
use Rattle.transform_quant.proofs.SizesEight.{pass8_within, forward8_grows}
use Rattle.transform_quant.proofs.TwoEight.{two_passes8, forward8_left, forward8_right}
use Rattle.transform_quant.proofs.forward8x8.forward8.Goals as goal

rows_small : (r x t : List ℤ) → x ≡ r → AllWithin 64 255 r → Turned8 (row8_by forward8_line x) t → AllWithin 64 16320 t
rows_small r x t e small turned = pass8_within forward8_line 255 16320 (forward8_grows 255) x t (all_within_same 64 255 _ _ (sym e) small) turned

pub forward8_pass-requires : goal.forward8_pass-requires
forward8_pass-requires c =
    all_within_more 64 16320 100000 _ (lit≤ tt) (rows_small _ _ _ c.widened.ensures c.requires c.forward8_pass-rows.ensures)

both_small : (r x t y : List ℤ) → x ≡ r → AllWithin 64 255 r → Turned8 (row8_by forward8_line x) t → Turned8 (row8_by forward8_line t) y → AllWithin 64 1044480 y
both_small r x t y e small first second =
    pass8_within forward8_line 16320 1044480 (forward8_grows 16320) t y (rows_small r x t e small first) second

pub sixty_fourths-requires : goal.sixty_fourths-requires
sixty_fourths-requires c =
    (lit< tt, (lit< tt, all_within_more 64 1044480 1000000000 _ (lit≤ tt) (both_small _ _ _ _ c.widened.ensures c.requires c.forward8_pass-rows.ensures c.forward8_pass.ensures)))

value : (x t y out : List ℤ) → Turned8 (row8_by forward8_line x) t → Turned8 (row8_by forward8_line t) y → length out ≡ 64 → ((p : ℕ) → p < 64 → item out p ≡ rounded 5 (item y p)) → out ≡ forward8_of x
unfolding forward8_of
value x t y out first second long is =
    mapped_listed 64 (rounded 5) (λ p. transformed 8 (rows_of FORWARD8) (block 8 x) (p / 8) (p % 8)) y out long is (two_passes8 (rows_of FORWARD8) forward8_line forward8_left forward8_right x t y first second)

pub returns-clause-value : goal.returns-clause-value
returns-clause-value c =
    value _ _ _ _ c.forward8_pass-rows.ensures c.forward8_pass.ensures (omega arith) c.sixty_fourths.ensures ∙ ap (λ (l : List ℤ). forward8_of l) c.widened.ensures

pub returns-clause-small : goal.returns-clause-small
returns-clause-small c =
    mapped_within 64 1044480 16320 (rounded 5) (sixty_fourths_within 16320) _ _ c.sixty_fourths.ensures (both_small _ _ _ _ c.widened.ensures c.requires c.forward8_pass-rows.ensures c.forward8_pass.ensures)
