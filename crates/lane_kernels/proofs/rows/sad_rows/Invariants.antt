use Rattle.std.proofs.Common.{◌≡◌, ◌*◌, take}
use Rattle.spec_basics.specs.Sums.{sad}
use Rattle.lane_kernels.proofs.rows.sad_rows.Given as goal

abbrev pub invariant-loop-k : goal.invariant-loop-k
invariant-loop-k l = l.total ≡ sad (take (16 * l.k) l.a) (take (16 * l.k) l.b)

abbrev pub invariant-loop-i : goal.invariant-loop-i
invariant-loop-i l = l.total ≡ sad (take l.i l.a) (take l.i l.b)
