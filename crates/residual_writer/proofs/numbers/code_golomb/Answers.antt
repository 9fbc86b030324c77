use Rattle.std.proofs.Common.{◌<◌, ◌≤◌, ◌+◌, ◌^◌, arith}
use Rattle.bin_writer.proofs.Coding.{plain_start, plain_on, plain_last, plain_then}
use Rattle.mb_binarise.proofs.Strings.{golomb_more, golomb_close, not_last, doubled}
use Rattle.residual_writer.proofs.numbers.code_golomb.Goals as goal

pub loop-rest-init : goal.loop-rest-init
loop-rest-init c = record { coded = plain_start c.requires.live; below = omega arith; order = omega arith }

pub loop-rest-preserved : goal.loop-rest-preserved
loop-rest-preserved c =
    let k = c.loop-rest.k in
    let p = c.power-rest.ensures in
    let more : 2 ^ k ≤ c.loop-rest.rest = rw c.power.ensures at c.loop-rest-test.true in
    let below = c.loop-rest.invariant.below in
    let other : k + 1 < 13 = not_last 13 k c.loop-rest.rest c.loop-rest.invariant.order more below in
    record {
      coded = rw p (plain_on (golomb_more 13 k c.loop-rest.rest c.loop-rest.invariant.order more) c.loop-rest.invariant.coded c.code_bypass.ensures);
      below = rw p (omega (arith, more, below, doubled k));
      order = other;
    }

pub returns : goal.returns
returns c =
    let close : c.loop-rest.rest < 2 ^ c.loop-rest.k = rw c.power.ensures at c.loop-rest-test.false in
    plain_last (golomb_close 13 c.loop-rest.k c.loop-rest.rest c.loop-rest.invariant.order close) c.loop-rest.invariant.coded (plain_then c.code_bypass-2.ensures c.code_number.ensures)
