use Rattle.std.proofs.Common.{◌≡◌, ◌<◌, ℕ, pos, ◌+ℤ◌, length, get_or}
use Rattle.spec_basics.specs.Clip.{clip1}
use Rattle.spec_residual.specs.Blocks.{item}
use Rattle.residual_coder.proofs.blocks.constructed.Given as goal

abbrev pub invariant-loop-k : goal.invariant-loop-k
invariant-loop-k g l = record {
  long : length l.out ≡ g.row.N;
  done : (k : ℕ) → k < l.k → get_or l.out k 0 ≡ clip1 (pos (get_or l.prediction k 0) +ℤ item l.residual k);
}
