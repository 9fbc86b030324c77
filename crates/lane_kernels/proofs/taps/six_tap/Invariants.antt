use Rattle.std.proofs.Common.{◌*◌}
use Rattle.spec_kernels.specs.Sums.{TapsOf}
use Rattle.lane_kernels.proofs.taps.six_tap.Given as goal

abbrev pub invariant-loop-k : goal.invariant-loop-k
invariant-loop-k l = TapsOf l.a l.out (16 * l.k)

abbrev pub invariant-loop-i : goal.invariant-loop-i
invariant-loop-i l = TapsOf l.a l.out l.i
