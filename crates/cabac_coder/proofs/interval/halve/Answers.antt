use Rattle.std.proofs.Common.{◌∙◌}
use Rattle.cabac_coder.proofs.Doublings.{halved_whole, halved_bounded}
use Rattle.cabac_coder.proofs.interval.halve.Goals as goal

pub emit-requires-clause-bounded : goal.emit-requires-clause-bounded
emit-requires-clause-bounded c = rw c.halved-low.ensures (halved_bounded c.args.bytes.now c.args.at.low c.args.at.range c.args.at.queued c.args.bit c.requires.bounded)

pub returns-clause-halved : goal.returns-clause-halved
returns-clause-halved c = c.emit.ensures.same ∙ rw c.halved-low.ensures (halved_whole c.args.bytes.now c.args.at.low c.args.at.range c.args.at.queued c.args.bit)
