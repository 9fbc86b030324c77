use Rattle.std.proofs.Common.{◌≡◌, ◌<◌, ℕ, length}
use Rattle.spec_residual.specs.Blocks.{item}
use Rattle.transform_quant.proofs.edges.numbers.Given as goal

abbrev pub invariant-loop-p : goal.invariant-loop-p
invariant-loop-p g l = record {
  long : length l.out ≡ g.row.N;
  same : (k : ℕ) → k < l.p → item l.out k ≡ item l.x k;
}
