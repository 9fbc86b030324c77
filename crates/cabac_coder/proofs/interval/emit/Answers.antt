use Rattle.std.proofs.Common.{arith, refl}
use Rattle.cabac_coder.proofs.Doublings.{digit_bound, digit_within, byte_same, byte_register, same_coded}
use Rattle.cabac_coder.proofs.interval.emit.Goals as goal

pub push-requires-clause-bound : goal.push-requires-clause-bound
push-requires-clause-bound c = digit_bound c.args.bytes.now.number c.args.bytes.now.count c.args.at.low c.args.at.range c.args.at.queued c.high_digit-digit.result
    c.if-at-lt8.false c.requires.positive c.requires.bounded.bound c.high_digit-digit.ensures

pub returns-clause-same : goal.returns-clause-same
returns-clause-same c =
    let w = digit_within c.args.at.low c.args.at.queued c.high_digit-digit.result c.high_digit-digit.ensures in
    rw (c.push.ensures, c.without.ensures) (same_coded (byte_same c.args.bytes.now.number c.args.at.low c.args.at.queued c.high_digit-digit.result c.if-at-lt8.false w) (omega (arith, c.if-at-lt8.false)) refl)

pub returns-clause-register : goal.returns-clause-register
returns-clause-register c =
    rw c.without.ensures (byte_register c.args.at.low c.args.at.range c.args.at.queued c.high_digit-digit.result c.if-at-lt8.false c.requires.most c.requires.register c.high_digit-digit.ensures)
