use Rattle.std.proofs.Common.{◌≡◌, ◌<◌, ◌/◌, ◌%◌, ℕ, ℤ, List, length, arith, sym, ap, ◌∙◌, lit<, lit≤}
use Rattle.enc_tables.specs.declared.transform.TheConstants.{HADAMARD4}
use Rattle.spec_residual.specs.Blocks.{item, rounded, transformed, rows_of, block}
use Rattle.spec_residual.specs.Forward.{luma_dc_of}
use Rattle.transform_quant.proofs.Sizes.{all_within_more, all_within_same}
use Rattle.transform_quant.proofs.Shifts.{mapped_within, mapped_listed, halves_within}
use Rattle.transform_quant.proofs.dc.luma_dc.Goals as goal

pub hadamard4-requires : goal.hadamard4-requires
hadamard4-requires c = all_within_more 16 16320 25000 _ (lit≤ tt) (all_within_same 16 16320 _ _ (sym c.coefs.ensures) c.requires)

pub halves-requires : goal.halves-requires
halves-requires c =
    (lit< tt, (lit< tt, all_within_more 16 261120 1000000000 _ (lit≤ tt) (c.hadamard4.ensures.small 16320 (all_within_same 16 16320 _ _ (sym c.coefs.ensures) c.requires))))

value : (x y out : List ℤ) → length out ≡ 16 → ((p : ℕ) → p < 16 → item out p ≡ rounded 0 (item y p)) → ((p : ℕ) → p < 16 → item y p ≡ transformed 4 (rows_of HADAMARD4) (block 4 x) (p / 4) (p % 4)) → out ≡ luma_dc_of x
unfolding luma_dc_of
value x y out long is are = mapped_listed 16 (rounded 0) (λ p. transformed 4 (rows_of HADAMARD4) (block 4 x) (p / 4) (p % 4)) y out long is are

pub returns-clause-value : goal.returns-clause-value
returns-clause-value c =
    value _ _ _ (omega arith) c.halves.ensures c.hadamard4.ensures.value ∙ ap (λ (l : List ℤ). luma_dc_of l) c.coefs.ensures

pub returns-clause-small : goal.returns-clause-small
returns-clause-small c small =
    mapped_within 16 65280 32640 (rounded 0) (halves_within 32640) _ _ c.halves.ensures (c.hadamard4.ensures.small 4080 (all_within_same 16 4080 _ _ (sym c.coefs.ensures) small))
