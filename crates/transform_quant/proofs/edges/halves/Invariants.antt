use Rattle.std.proofs.Common.{◌≡◌, ◌<◌, ℕ, length}
use Rattle.spec_residual.specs.Blocks.{item, rounded}
use Rattle.transform_quant.proofs.edges.halves.Given as goal

abbrev pub invariant-loop-p : goal.invariant-loop-p
invariant-loop-p g l = record {
  long : length l.out ≡ g.row.N;
  done : (k : ℕ) → k < l.p → item l.out k ≡ rounded 0 (item l.x k);
}
