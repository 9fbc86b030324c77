use Rattle.std.proofs.Common.{◌≡◌, ◌<◌, ℕ, pos, ◌-ℤ◌, length, get_or}
use Rattle.spec_basics.specs.Bounds.{Within}
use Rattle.spec_residual.specs.Blocks.{item}
use Rattle.residual_coder.proofs.blocks.differences.Given as goal

abbrev pub invariant-loop-k : goal.invariant-loop-k
invariant-loop-k g l = record {
  long : length l.out ≡ g.row.N;
  small : (k : ℕ) → k < l.k → Within 255 (item l.out k);
  done : (k : ℕ) → k < l.k → item l.out k ≡ pos (get_or l.source k 0) -ℤ pos (get_or l.prediction k 0);
}
