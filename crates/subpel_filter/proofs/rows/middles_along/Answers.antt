use Rattle.std.proofs.Common.{◌≡◌, arith}
use Rattle.subpel_filter.specs.Rows.{middle_across}
use Rattle.subpel_filter.proofs.Written.{item_more}
use Rattle.subpel_filter.proofs.rows.middles_along.Goals as goal

pub loop-i-preserved : goal.loop-i-preserved
unfolding middle_across
loop-i-preserved c = item_more (λ k v. v ≡ middle_across c.args.a.now k) c.loop-i.out c.loop-i.i c.middle_of.result (omega arith) c.loop-i.invariant c.middle_of.ensures
