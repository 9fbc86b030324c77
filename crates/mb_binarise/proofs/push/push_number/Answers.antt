use Rattle.std.proofs.Common.{◌≡◌, suc, ◌-◌, ◌∙◌, sym, ap, arith, ◌++◌, List}
use Rattle.std.proofs.lemmas.List.{append-nil}
use Rattle.std.proofs.Math.Nat.{pow-suc}
use Rattle.spec_syntax.specs.declared.Bin.{Bin}
use Rattle.mb_binarise.proofs.Strings.{number_low, number_high, number_end, step}
use Rattle.mb_binarise.proofs.push.push_number.Goals as goal

pub loop-left-preserved-then-rest-half : goal.loop-left-preserved-then-rest-half
loop-left-preserved-then-rest-half c =
    let n : c.loop-left.left ≡ suc (c.loop-left.left - 1) = omega arith in
    let w = rw n at c.loop-left.invariant.written in
    let lt = rw c.power-half.ensures at c.if-rest-half.true in
    record {
      written = rw c.push.ensures.items (step _ c.loop-left.bins.items _ _ _ w (number_low (c.loop-left.left - 1) c.loop-left.rest lt));
      len = omega arith;
      below = lt;
      left = omega arith;
    }

pub loop-left-preserved : goal.loop-left-preserved
loop-left-preserved c =
    let n : c.loop-left.left ≡ suc (c.loop-left.left - 1) = omega arith in
    let w = rw n at c.loop-left.invariant.written in
    let b = rw n at c.loop-left.invariant.below in
    let ge = rw c.power-half.ensures at c.if-rest-half.false in
    record {
      written = rw (c.push-else-rest-half.ensures.items, c.power-half.ensures) (step _ c.loop-left.bins.items _ _ _ w (number_high (c.loop-left.left - 1) c.loop-left.rest ge));
      len = omega arith;
      below = rw c.power-half.ensures (omega (arith, b, ge, pow-suc 2 (c.loop-left.left - 1)));
      left = omega arith;
    }

pub returns-clause-items : goal.returns-clause-items
returns-clause-items c =
    let z : c.loop-left.left ≡ 0 = omega arith in
    let w = rw z at c.loop-left.invariant.written in
    sym (append-nil c.loop-left.bins.items) ∙ ap (λ (ys : List Bin). c.loop-left.bins.items ++ ys) (sym (number_end c.loop-left.rest)) ∙ w
