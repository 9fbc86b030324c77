use Rattle.std.proofs.Common.{arith, sym}
use Rattle.nine_search.proofs.Stepping.{count_none, count_one, count_same}
use Rattle.nine_search.proofs.partitions.want_count.Goals as goal
use Rattle.nine_search.proofs.partitions.want_count.Goals.{then-sums-k, else-sums-k}

pub loop-k-init : goal.loop-k-init
loop-k-init c = record { value = sym (count_none c.args.sums.now c.args.limits.now); few = omega arith }

pub loop-k-preserved : goal.loop-k-preserved
loop-k-preserved c =
    let v = c.loop-k.invariant.value in
    let f = c.loop-k.invariant.few in
    elim c.if-sums-k.branch [
      | then-sums-k w ↦ (let n = w.count-is in let e = count_one c.args.sums.now c.args.limits.now c.loop-k.k (omega arith) in record { value = omega arith; few = omega arith })
      | else-sums-k w ↦ (let n = w.count-is in let e = count_same c.args.sums.now c.args.limits.now c.loop-k.k (omega arith) in record { value = omega arith; few = omega arith })
    ]
