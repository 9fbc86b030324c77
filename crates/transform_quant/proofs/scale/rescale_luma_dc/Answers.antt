use Rattle.std.proofs.Common.{◌≡◌, ◌≤◌, ◌<◌, ◌*◌, ◌/◌, ◌%◌, ℕ, ℤ, List, Bool, length, arith, ◌∙◌, sym, ap, subst, lit<, lit≤}
use Rattle.enc_tables.specs.declared.transform.TheConstants.{HADAMARD4}
use Rattle.spec_residual.specs.declared.BlockKind.TheVariants.{LumaDc}
use Rattle.spec_residual.specs.Blocks.{AllWithin, item, block, rows_of, transformed}
use Rattle.spec_basics.specs.Bounds.{Within}
use Rattle.spec_residual.specs.Levels.{IsMade}
use Rattle.spec_residual.specs.Rescaled.{rescaled, luma_dc_rescaled}
use Rattle.spec_residual.proofs.Bounds.{top_level, made_within, luma_dc_sum_small, luma_dc_top_level}
use Rattle.spec_residual.proofs.Listed.{is_listed}
use Rattle.transform_quant.proofs.Sizes.{all_within_more, all_within_same}
use Rattle.transform_quant.proofs.scale.rescale_luma_dc.Goals as goal

pub coefficients-requires : goal.coefficients-requires
coefficients-requires c =
    (lit< tt, (lit< tt, (c.requires.in_range, (lit≤ tt, (lit≤ tt, all_within_more 16 131056 131056 _ (lit≤ tt) (c.hadamard4.ensures.small 8191 (all_within_same 16 8191 _ _ (sym c.widened.ensures) c.requires.size)))))))

value : (qp : ℕ) (x y out : List ℤ) → length out ≡ 16 → ((p : ℕ) → p < 16 → item out p ≡ rescaled LumaDc qp p (item y p)) → ((p : ℕ) → p < 16 → item y p ≡ transformed 4 (rows_of HADAMARD4) (block 4 x) (p / 4) (p % 4)) → out ≡ luma_dc_rescaled qp x
unfolding luma_dc_rescaled
value qp x y out long is are = is_listed 16 _ out long (λ p h. is p h ∙ ap (λ (z : ℤ). rescaled LumaDc qp p z) (are p h))

pub returns-clause-value : goal.returns-clause-value
returns-clause-value c =
    value c.args.qp _ _ _ (omega arith) c.coefficients.ensures c.hadamard4.ensures.value ∙ ap (λ (l : List ℤ). luma_dc_rescaled c.args.qp l) c.widened.ensures

levels_within : (intra : Bool) (qp : ℕ) (levels : List ℤ) → ((p : ℕ) → p < 16 → IsMade LumaDc intra qp p (item levels p)) → AllWithin 16 (top_level LumaDc intra qp 0) levels
levels_within intra qp levels made p h =
    subst (λ (m : ℕ). Within m (item levels p)) (luma_dc_top_level intra qp p) (made_within LumaDc intra qp p (item levels p) (made p h))

small : (intra : Bool) (qp : ℕ) (y out : List ℤ) → qp ≤ 51 → ((p : ℕ) → p < 16 → item out p ≡ rescaled LumaDc qp p (item y p)) → AllWithin 16 (16 * top_level LumaDc intra qp 0) y → AllWithin 16 1048576 out
small intra qp y out few is within p h =
    let w = subst (λ (m : ℕ). Within (16 * m) (item y p)) (sym (luma_dc_top_level intra qp p)) (within p h) in
    subst (λ (z : ℤ). Within 1048576 z) (sym (is p h)) (luma_dc_sum_small intra qp p (item y p) few w)

pub returns-clause-small : goal.returns-clause-small
returns-clause-small c intra made =
    small intra c.args.qp _ _ c.requires.in_range c.coefficients.ensures (c.hadamard4.ensures.small (top_level LumaDc intra c.args.qp 0) (all_within_same 16 _ _ _ (sym c.widened.ensures) (levels_within intra c.args.qp c.args.levels.now made)))
