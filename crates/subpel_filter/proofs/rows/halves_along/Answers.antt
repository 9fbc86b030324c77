use Rattle.std.proofs.Common.{◌≡◌, arith}
use Rattle.subpel_filter.specs.Rows.{half_at}
use Rattle.subpel_filter.proofs.Written.{item_more}
use Rattle.subpel_filter.proofs.rows.halves_along.Goals as goal

pub loop-i-preserved : goal.loop-i-preserved
unfolding half_at
loop-i-preserved c = item_more (λ k v. v ≡ half_at c.args.a.now k) c.loop-i.out c.loop-i.i c.half_of.result (omega arith) c.loop-i.invariant c.half_of.ensures
