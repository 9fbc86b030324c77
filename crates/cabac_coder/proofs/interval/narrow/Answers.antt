use Rattle.std.proofs.Common.{◌<◌, ◌∙◌, arith}
use Rattle.cabac_coder.proofs.Doublings.{narrowed_whole, narrowed_register, narrowed_bounded, narrowed_most}
use Rattle.cabac_coder.proofs.interval.narrow.Goals as goal

pub emit-requires-clause-register : goal.emit-requires-clause-register
emit-requires-clause-register c =
    rw (c.scaled-low.ensures, c.scaled-range.ensures)
    (narrowed_register c.args.at.low c.args.add c.args.range c.args.at.range c.args.at.queued c.args.more c.requires.within c.requires.register)

pub emit-requires-clause-most : goal.emit-requires-clause-most
emit-requires-clause-most c =
    let l : c.args.range < 512 = omega (arith, c.requires.within, c.requires.most) in
    rw c.scaled-range.ensures (narrowed_most c.args.bytes.now c.args.at.low c.args.add c.args.range c.args.at.range c.args.at.queued c.args.more c.requires.more l)

pub emit-requires-clause-bounded : goal.emit-requires-clause-bounded
emit-requires-clause-bounded c =
    rw (c.scaled-low.ensures, c.scaled-range.ensures)
    (narrowed_bounded c.args.bytes.now c.args.at.low c.args.add c.args.range c.args.at.range c.args.at.queued c.args.more c.requires.more c.requires.within c.requires.bounded)

pub returns-clause-narrowed : goal.returns-clause-narrowed
returns-clause-narrowed c =
    c.emit.ensures.same ∙ rw (c.scaled-low.ensures, c.scaled-range.ensures)
    (narrowed_whole c.args.bytes.now c.args.at.low c.args.add c.args.range c.args.at.range c.args.at.queued c.args.more c.requires.more)
