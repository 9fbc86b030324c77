use Rattle.std.proofs.Common.{◌≡◌, suc, ◌-◌, arith}
use Rattle.std.proofs.Math.Nat.{pow-suc}
use Rattle.bin_writer.proofs.Coding.{plain_start, plain_on, plain_end}
use Rattle.mb_binarise.proofs.Strings.{number_low, number_high, number_end}
use Rattle.residual_writer.proofs.numbers.code_number.Goals as goal

pub loop-left-init : goal.loop-left-init
loop-left-init c = record { coded = plain_start c.requires.live; below = c.requires.below; left = omega arith }

pub loop-left-preserved-then-rest-half : goal.loop-left-preserved-then-rest-half
loop-left-preserved-then-rest-half c =
    let n : c.loop-left.left ≡ suc (c.loop-left.left - 1) = omega arith in
    let w = rw n at c.loop-left.invariant.coded in
    let lt = rw c.power-half.ensures at c.if-rest-half.true in
    record { coded = plain_on (number_low (c.loop-left.left - 1) c.loop-left.rest lt) w c.code_bypass.ensures; below = lt; left = omega arith }

pub loop-left-preserved : goal.loop-left-preserved
loop-left-preserved c =
    let n : c.loop-left.left ≡ suc (c.loop-left.left - 1) = omega arith in
    let w = rw n at c.loop-left.invariant.coded in
    let b = rw n at c.loop-left.invariant.below in
    let ge = rw c.power-half.ensures at c.if-rest-half.false in
    record {
      coded = rw c.power-half.ensures (plain_on (number_high (c.loop-left.left - 1) c.loop-left.rest ge) w c.code_bypass-else-rest-half.ensures);
      below = rw c.power-half.ensures (omega (arith, b, ge, pow-suc 2 (c.loop-left.left - 1)));
      left = omega arith;
    }

pub returns : goal.returns
returns c =
    let z : c.loop-left.left ≡ 0 = omega arith in
    let w = rw z at c.loop-left.invariant.coded in
    plain_end (number_end c.loop-left.rest) w
