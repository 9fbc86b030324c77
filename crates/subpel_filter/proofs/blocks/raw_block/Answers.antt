use Rattle.std.proofs.Common.{arith}
use Rattle.subpel_filter.specs.Near.{RawAt}
use Rattle.subpel_filter.proofs.Written.{block_more, raw_row}
use Rattle.subpel_filter.proofs.blocks.raw_block.Goals as goal

pub loop-j-preserved : goal.loop-j-preserved
loop-j-preserved g c = block_more (λ i j v. RawAt c.args.plane.now c.args.column c.args.row i j v) g.row.W c.args.h 21 c.loop-j.j c.loop-j.out c.raws.new.out c.loop-j.invariant
    c.raws.auto.out (omega arith) (omega arith) (omega arith) (omega arith)
    (λ i p q. raw_row c.args.plane.now c.args.column c.args.row g.row.W i c.loop-j.j _ c.window-samples.result.now c.window-samples.ensures.value q (c.raws.ensures i p))
