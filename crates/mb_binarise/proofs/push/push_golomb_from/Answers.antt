use Rattle.std.proofs.Common.{◌+◌, ◌<◌, arith, refl}
use Rattle.mb_binarise.proofs.Strings.{golomb_more, golomb_close, not_last, order_below, order_start, doubled, step}
use Rattle.mb_binarise.proofs.push.push_golomb_from.Goals as goal

pub loop-rest-init : goal.loop-rest-init
loop-rest-init c = record {
  written = rw (order_start c.args.order c.args.most) refl;
  len = omega arith;
  below = c.requires.below;
  from = omega arith;
  small = order_below c.args.order c.args.most c.args.value c.requires.below;
}

pub loop-rest-preserved : goal.loop-rest-preserved
loop-rest-preserved c =
    let k = c.loop-rest.k in
    let n = c.args.order + c.args.most in
    let ge = rw c.power.ensures at c.loop-rest-test.true in
    let more : k + 1 < n = not_last n k c.loop-rest.rest c.loop-rest.invariant.small ge c.loop-rest.invariant.below in
    record {
      written = rw (c.push.ensures.items, c.power-rest.ensures) (step _ c.loop-rest.bins.items _ _ _ c.loop-rest.invariant.written (golomb_more n k c.loop-rest.rest c.loop-rest.invariant.small ge));
      len = omega arith;
      below = rw (c.power-rest.ensures, doubled k) (omega (arith, ge));
      from = omega arith;
      small = more;
    }

pub returns-clause-items : goal.returns-clause-items
returns-clause-items c =
    let lt = rw c.power.ensures at c.loop-rest-test.false in
    rw (c.push_number.ensures.items, c.push-2.ensures.items) (step _ c.loop-rest.bins.items _ _ _ c.loop-rest.invariant.written (golomb_close (c.args.order + c.args.most) c.loop-rest.k c.loop-rest.rest c.loop-rest.invariant.small lt))
