use Rattle.std.proofs.Common.{◌≡◌, length, ◌∙◌, arith}
use Rattle.spec_basics.proofs.SadLaws.{sad_places}
use Rattle.intra_plans.proofs.difference.difference.Goals as goal

pub returns-clause-value : goal.returns-clause-value
returns-clause-value c =
    let e : c.loop-k.k ≡ length c.args.xs.now = omega arith in
    let sum = rw e at c.loop-k.invariant.value in
    sum ∙ sad_places c.args.xs.now c.args.ys.now c.requires.same
