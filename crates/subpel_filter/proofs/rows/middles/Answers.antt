use Rattle.std.proofs.Common.{length-set, ◌∙◌, ◌≡◌, arith}
use Rattle.subpel_filter.specs.Rows.{middle_down}
use Rattle.subpel_filter.proofs.Written.{item_more}
use Rattle.subpel_filter.proofs.rows.middles.Goals as goal

pub loop-i-preserved : goal.loop-i-preserved
unfolding middle_down
loop-i-preserved g c = (length-set c.loop-i.row c.loop-i.i c.middle_of.result ∙ c.loop-i.invariant.0, item_more (λ k v. v ≡ middle_down c.args.a.now c.args.b.now c.args.c.now c.args.d.now c.args.e.now c.args.f.now k) c.loop-i.row c.loop-i.i c.middle_of.result (omega (arith, c.loop-i.invariant.0)) c.loop-i.invariant.1 c.middle_of.ensures)
