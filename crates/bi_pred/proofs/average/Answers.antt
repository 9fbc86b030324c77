use Rattle.std.proofs.Common.{sym, ◌∙◌, arith}
use Rattle.bi_pred.proofs.Means.{all_means}
use Rattle.bi_pred.proofs.average.Goals as goal

pub returns : goal.returns
returns c =
    all_means c.args.a.now c.args.b.now c.loop-i.out c.loop-i.invariant.0 (c.requires.first ∙ sym c.requires.second) (λ k less. c.loop-i.invariant.1 k (omega (arith, less, c.loop-i.auto.out, c.loop-i-test.false)))
