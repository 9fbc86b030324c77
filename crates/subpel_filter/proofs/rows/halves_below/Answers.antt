use Rattle.std.proofs.Common.{◌≡◌, arith}
use Rattle.subpel_filter.specs.Rows.{half_down}
use Rattle.subpel_filter.proofs.Written.{item_more}
use Rattle.subpel_filter.proofs.rows.halves_below.Goals as goal

pub loop-i-preserved : goal.loop-i-preserved
unfolding half_down
loop-i-preserved c = item_more (λ k v. v ≡ half_down c.args.a.now c.args.b.now c.args.c.now c.args.d.now c.args.e.now c.args.f.now k) c.loop-i.out c.loop-i.i c.half_of.result (omega arith) c.loop-i.invariant c.half_of.ensures
