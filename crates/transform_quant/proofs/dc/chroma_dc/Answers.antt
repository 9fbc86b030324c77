use Rattle.std.proofs.Common.{◌≡◌, ◌<◌, ◌/◌, ◌%◌, ℕ, ℤ, List, length, arith, sym, ap, ◌∙◌, lit<, lit≤}
use Rattle.enc_tables.specs.declared.transform.TheConstants.{HADAMARD2}
use Rattle.spec_residual.specs.Blocks.{item, transformed, rows_of, block}
use Rattle.spec_residual.specs.Forward.{chroma_dc_of}
use Rattle.spec_residual.proofs.Listed.{is_listed}
use Rattle.transform_quant.proofs.Sizes.{all_within_more, all_within_same}
use Rattle.transform_quant.proofs.dc.chroma_dc.Goals as goal

pub hadamard2-requires : goal.hadamard2-requires
hadamard2-requires c = all_within_more 4 16320 100000 _ (lit≤ tt) (all_within_same 4 16320 _ _ (sym c.coefs.ensures) c.requires)

pub numbers-requires : goal.numbers-requires
numbers-requires c =
    (lit< tt, (lit< tt, all_within_more 4 65280 2147483647 _ (lit≤ tt) (c.hadamard2.ensures.small 16320 (all_within_same 4 16320 _ _ (sym c.coefs.ensures) c.requires))))

value : (x out : List ℤ) → length out ≡ 4 → ((p : ℕ) → p < 4 → item out p ≡ transformed 2 (rows_of HADAMARD2) (block 2 x) (p / 2) (p % 2)) → out ≡ chroma_dc_of x
unfolding chroma_dc_of
value x out long are = is_listed 4 (λ p. transformed 2 (rows_of HADAMARD2) (block 2 x) (p / 2) (p % 2)) out long are

pub returns-clause-value : goal.returns-clause-value
returns-clause-value c =
    c.numbers.ensures ∙ value _ _ (omega arith) c.hadamard2.ensures.value ∙ ap (λ (l : List ℤ). chroma_dc_of l) c.coefs.ensures

pub returns-clause-small : goal.returns-clause-small
returns-clause-small c small =
    all_within_same 4 16320 _ _ (sym c.numbers.ensures) (c.hadamard2.ensures.small 4080 (all_within_same 4 4080 _ _ (sym c.coefs.ensures) small))
