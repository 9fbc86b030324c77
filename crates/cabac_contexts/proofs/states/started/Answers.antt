use Rattle.std.proofs.Common.{arith}
use Rattle.cabac_contexts.proofs.Started.{is_started}
use Rattle.cabac_contexts.proofs.states.started.Goals as goal

pub returns-clause-states : goal.returns-clause-states
returns-clause-states c =
    is_started c.args.pairs.now c.args.qp c.loop-index.states c.loop-index.invariant.long (λ k h. c.loop-index.invariant.done k (omega (arith, c.loop-index-test.false)))

pub returns-clause-known : goal.returns-clause-known
returns-clause-known c = c.loop-index.invariant.known
