use Rattle.std.proofs.Common.{arith, ◌≡◌}
use Rattle.intra_pred.proofs.Filled.{filled_all}
use Rattle.intra_pred.proofs.blocks.block8.Goals as goal

pub returns : goal.returns
returns g c =
    let e : c.loop-k.k ≡ 64 = omega arith in
    filled_all 8 (g.P.Predictor.at c.args.p.now) c.loop-k.out (rw e at c.loop-k.invariant)
