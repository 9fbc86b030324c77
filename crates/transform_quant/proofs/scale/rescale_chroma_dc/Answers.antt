use Rattle.std.proofs.Common.{◌≡◌, ◌≤◌, ◌<◌, ◌*◌, ◌/◌, ◌%◌, ℕ, ℤ, List, Bool, length, arith, ◌∙◌, sym, ap, subst, lit<, lit≤}
use Rattle.enc_tables.specs.declared.transform.TheConstants.{HADAMARD2}
use Rattle.spec_residual.specs.declared.BlockKind.TheVariants.{ChromaDc}
use Rattle.spec_residual.specs.Blocks.{AllWithin, item, block, rows_of, transformed}
use Rattle.spec_basics.specs.Bounds.{Within}
use Rattle.spec_residual.specs.Levels.{IsMade}
use Rattle.spec_residual.specs.Rescaled.{rescaled, chroma_dc_rescaled}
use Rattle.spec_residual.proofs.Bounds.{top_level, made_within, chroma_dc_sum_small, chroma_dc_top_level}
use Rattle.spec_residual.proofs.Listed.{is_listed}
use Rattle.transform_quant.proofs.Sizes.{all_within_more, all_within_same}
use Rattle.transform_quant.proofs.scale.rescale_chroma_dc.Goals as goal

pub coefficients-requires : goal.coefficients-requires
coefficients-requires c =
    (lit< tt, (lit< tt, (c.requires.in_range, (lit≤ tt, (lit≤ tt, all_within_more 4 32764 131056 _ (lit≤ tt) (c.hadamard2.ensures.small 8191 (all_within_same 4 8191 _ _ (sym c.widened.ensures) c.requires.size)))))))

value : (qp : ℕ) (x y out : List ℤ) → length out ≡ 4 → ((p : ℕ) → p < 4 → item out p ≡ rescaled ChromaDc qp p (item y p)) → ((p : ℕ) → p < 4 → item y p ≡ transformed 2 (rows_of HADAMARD2) (block 2 x) (p / 2) (p % 2)) → out ≡ chroma_dc_rescaled qp x
unfolding chroma_dc_rescaled
value qp x y out long is are = is_listed 4 _ out long (λ p h. is p h ∙ ap (λ (z : ℤ). rescaled ChromaDc qp p z) (are p h))

pub returns-clause-value : goal.returns-clause-value
returns-clause-value c =
    value c.args.qp _ _ _ (omega arith) c.coefficients.ensures c.hadamard2.ensures.value ∙ ap (λ (l : List ℤ). chroma_dc_rescaled c.args.qp l) c.widened.ensures

levels_within : (intra : Bool) (qp : ℕ) (levels : List ℤ) → ((p : ℕ) → p < 4 → IsMade ChromaDc intra qp p (item levels p)) → AllWithin 4 (top_level ChromaDc intra qp 0) levels
levels_within intra qp levels made p h =
    subst (λ (m : ℕ). Within m (item levels p)) (chroma_dc_top_level intra qp p) (made_within ChromaDc intra qp p (item levels p) (made p h))

small : (intra : Bool) (qp : ℕ) (y out : List ℤ) → qp ≤ 51 → ((p : ℕ) → p < 4 → item out p ≡ rescaled ChromaDc qp p (item y p)) → AllWithin 4 (4 * top_level ChromaDc intra qp 0) y → AllWithin 4 1048576 out
small intra qp y out few is within p h =
    let w = subst (λ (m : ℕ). Within (4 * m) (item y p)) (sym (chroma_dc_top_level intra qp p)) (within p h) in
    subst (λ (z : ℤ). Within 1048576 z) (sym (is p h)) (chroma_dc_sum_small intra qp p (item y p) few w)

pub returns-clause-small : goal.returns-clause-small
returns-clause-small c intra made =
    small intra c.args.qp _ _ c.requires.in_range c.coefficients.ensures (c.hadamard2.ensures.small (top_level ChromaDc intra c.args.qp 0) (all_within_same 4 _ _ _ (sym c.widened.ensures) (levels_within intra c.args.qp c.args.levels.now made)))
