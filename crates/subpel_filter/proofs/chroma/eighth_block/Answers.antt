use Rattle.std.proofs.Common.{◌≡◌, ◌∙◌, arith}
use Rattle.subpel_filter.specs.Near.{eighth_in}
use Rattle.subpel_filter.proofs.Written.{block_more_8, eighth_row}
use Rattle.subpel_filter.proofs.chroma.eighth_block.Goals as goal

pub loop-j-preserved : goal.loop-j-preserved
loop-j-preserved g c =
    block_more_8 (λ i j v. v ≡ eighth_in c.args.plane.now c.args.u c.args.v c.args.column c.args.row i j) g.row.W c.args.h c.loop-j.j c.loop-j.out c.weighted.new.out c.loop-j.invariant
    c.weighted.auto.out (omega arith) (omega arith) (omega arith) (omega arith)
    (λ i p q. c.weighted.ensures i p ∙ eighth_row c.args.plane.now c.args.u c.args.v c.args.column c.args.row g.row.W i c.loop-j.j _ _ _ _ c.window-a.result.now c.window-b.result.now
    c.window-a.ensures.value c.window-b.ensures.value q c.weights_at-by.ensures.here c.weights_at-by.ensures.right c.weights_at-by.ensures.below c.weights_at-by.ensures.both)
