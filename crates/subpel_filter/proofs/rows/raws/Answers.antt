use Rattle.std.proofs.Common.{arith}
use Rattle.subpel_filter.specs.Rows.{RawOf}
use Rattle.subpel_filter.proofs.Written.{item_more}
use Rattle.subpel_filter.proofs.rows.raws.Goals as goal

pub loop-i-preserved : goal.loop-i-preserved
loop-i-preserved c = item_more (λ k v. RawOf c.args.a.now k v) c.loop-i.out c.loop-i.i c.raw_of.result (omega arith) c.loop-i.invariant (record { same = c.raw_of.ensures.value; most = c.raw_of.ensures.most })
