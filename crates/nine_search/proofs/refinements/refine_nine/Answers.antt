use Rattle.std.proofs.Common.{ℕ, ◌∙◌, arith, subst, sym}
use Rattle.std.proofs.lemmas.List.{length-set}
use Rattle.enc_tables.specs.declared.records.Vector.{Vector}
use Rattle.spec_search.specs.declared.blocks.Block.{Block}
use Rattle.spec_search.specs.Refine.{IsRefined}
use Rattle.motion_search.specs.Planes.{IsBlockOf}
use Rattle.motion_search.specs.Quarters.{quarter_costs, kept_costs}
use Rattle.nine_search.specs.Partitions.{partition_block}
use Rattle.nine_search.specs.NineSearches.{dx_at, dy_at}
use Rattle.nine_search.proofs.Fours.{partition_inside, block_is}
use Rattle.nine_search.proofs.Nines.{one_more, refined_at}
use Rattle.nine_search.proofs.refinements.refine_nine.Goals as goal

pub refine_from-found-requires-clause-block : goal.refine_from-found-requires-clause-block
refine_from-found-requires-clause-block c =
    subst (λ (b : Block). IsBlockOf c.args.source.now b) (sym (block_is _ _ c.args.x c.args.y c.loop-k.k c.nine_blocks-blocks.ensures (omega arith)))
    (partition_inside c.args.source.now.width c.args.source.now.height c.args.x c.args.y c.loop-k.k c.requires.macroblock (omega arith))

pub refine_from-found-requires-clause-best : goal.refine_from-found-requires-clause-best
refine_from-found-requires-clause-best c = rw (c.best_at-best.ensures.dx, c.best_at-best.ensures.dy) (c.requires.best c.loop-k.k (omega arith))

pub loop-k-preserved : goal.loop-k-preserved
loop-k-preserved c =
    let s = c.args.source.now in
    let r = c.args.reference.now in
    let h = c.args.halves.now in
    let n = c.args.nine.now in
    let x = c.args.x in
    let y = c.args.y in
    let k = c.loop-k.k in
    let i = c.loop-k.invariant in
    let lv = i.vectors in
    let ls = i.sads in
    let found = c.refine_from-found.result in
    record {
      kept = one_more (λ (j : ℕ) (v : Vector) (t : ℕ). IsRefined (kept_costs s r h (partition_block x y j)) (dx_at n j) (dy_at n j) v t) c.loop-k.vectors c.loop-k.sads k found.0 found.1 (omega arith) (omega arith) i.kept
          (refined_at (kept_costs s r h) _ _ _ _ _ _ found.0 found.1 (block_is _ _ x y k c.nine_blocks-blocks.ensures (omega arith)) c.best_at-best.ensures.dx c.best_at-best.ensures.dy c.refine_from-found.ensures.kept);
      same = λ made. one_more (λ (j : ℕ) (v : Vector) (t : ℕ). IsRefined (quarter_costs s r (partition_block x y j)) (dx_at n j) (dy_at n j) v t) c.loop-k.vectors c.loop-k.sads k found.0 found.1 (omega arith) (omega arith) (i.same made)
          (refined_at (quarter_costs s r) _ _ _ _ _ _ found.0 found.1 (block_is _ _ x y k c.nine_blocks-blocks.ensures (omega arith)) c.best_at-best.ensures.dx c.best_at-best.ensures.dy (c.refine_from-found.ensures.same made));
      vectors = length-set c.loop-k.vectors k found.0 ∙ lv;
      sads = length-set c.loop-k.sads k found.1 ∙ ls;
    }
