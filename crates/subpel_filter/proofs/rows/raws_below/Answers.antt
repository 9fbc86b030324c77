use Rattle.std.proofs.Common.{arith}
use Rattle.subpel_filter.specs.Rows.{RawDown}
use Rattle.subpel_filter.proofs.Written.{item_more}
use Rattle.subpel_filter.proofs.rows.raws_below.Goals as goal

pub loop-i-preserved : goal.loop-i-preserved
loop-i-preserved c = item_more (λ k v. RawDown c.args.a.now c.args.b.now c.args.c.now c.args.d.now c.args.e.now c.args.f.now k v) c.loop-i.out c.loop-i.i c.raw_of.result (omega arith) c.loop-i.invariant (record { same = c.raw_of.ensures.value; most = c.raw_of.ensures.most })
