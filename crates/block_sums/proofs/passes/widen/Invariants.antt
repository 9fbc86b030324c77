use Rattle.std.proofs.Common.{◌≡◌, take}
use Rattle.block_sums.proofs.passes.widen.Given as goal

abbrev pub invariant-loop-i : goal.invariant-loop-i
invariant-loop-i l = take l.i l.sums ≡ take l.i l.samples
