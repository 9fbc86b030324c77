use Rattle.std.proofs.Common.{◌≡◌, ◌<◌, ℕ, ℤ, List, Bool, length, arith, sym, subst}
use Rattle.spec_residual.specs.declared.BlockKind.TheVariants.{ChromaDc}
use Rattle.spec_basics.specs.Bounds.{Within}
use Rattle.spec_residual.specs.Blocks.{item}
use Rattle.spec_residual.specs.Levels.{level_of, chroma_dc_levels_of}
use Rattle.spec_residual.proofs.Bounds.{level_small}
use Rattle.spec_residual.proofs.Listed.{is_listed}
use Rattle.transform_quant.proofs.Counted.{all_counted}
use Rattle.transform_quant.proofs.levels.quantise_chroma_dc.Goals as goal

abbrev level_at : Bool → ℕ → List ℤ → ℕ → ℤ
level_at intra qp xs s = level_of ChromaDc intra qp s (item xs s)

value : (intra : Bool) (qp : ℕ) (xs out : List ℤ) → length out ≡ 4 → ((k : ℕ) → k < 4 → item out k ≡ level_at intra qp xs k) → out ≡ chroma_dc_levels_of intra qp xs
unfolding chroma_dc_levels_of
value intra qp xs out long done = is_listed 4 (level_at intra qp xs) out long done

pub returns-clause-value : goal.returns-clause-value
returns-clause-value c =
    value c.args.intra c.args.qp c.args.c.now c.loop-scan.levels c.loop-scan.invariant.long (λ k h. c.loop-scan.invariant.done k (omega arith))

pub returns-clause-nonzero : goal.returns-clause-nonzero
returns-clause-nonzero c = all_counted c.loop-scan.levels 4 c.loop-scan.nonzero c.loop-scan.scan c.loop-scan.invariant.long (omega arith) c.loop-scan.invariant.counted

pub returns-clause-small : goal.returns-clause-small
returns-clause-small c small p h =
    let inside : p < 4 = h in
    subst (λ (v : ℤ). Within 8191 v) (sym (c.loop-scan.invariant.done p (omega arith))) (level_small ChromaDc c.args.intra c.args.qp p (item c.args.c.now p) (small p inside))
