use Rattle.std.proofs.Common.{length-set, ◌∙◌, ◌≡◌, arith}
use Rattle.subpel_filter.specs.Rows.{half_at}
use Rattle.subpel_filter.proofs.Written.{item_more}
use Rattle.subpel_filter.proofs.rows.halves.Goals as goal

pub loop-i-preserved : goal.loop-i-preserved
unfolding half_at
loop-i-preserved g c = (length-set c.loop-i.row c.loop-i.i c.half_of.result ∙ c.loop-i.invariant.0, item_more (λ k v. v ≡ half_at c.args.a.now k) c.loop-i.row c.loop-i.i c.half_of.result (omega (arith, c.loop-i.invariant.0)) c.loop-i.invariant.1 c.half_of.ensures)
