use Rattle.std.proofs.Common.{◌≡◌, ◌*◌, take, sum}
use Rattle.lane_kernels.proofs.rows.sum_rows.Given as goal

abbrev pub invariant-loop-k : goal.invariant-loop-k
invariant-loop-k l = l.total ≡ sum (take (16 * l.k) l.a)

abbrev pub invariant-loop-i : goal.invariant-loop-i
invariant-loop-i l = l.total ≡ sum (take l.i l.a)
