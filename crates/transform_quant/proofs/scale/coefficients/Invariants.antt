use Rattle.std.proofs.Common.{◌≡◌, ◌<◌, ℕ, length}
use Rattle.spec_residual.specs.Blocks.{item}
use Rattle.spec_residual.specs.Rescaled.{rescaled}
use Rattle.transform_quant.proofs.scale.coefficients.Given as goal

abbrev pub invariant-loop-p : goal.invariant-loop-p
invariant-loop-p g l = record {
  long : length l.out ≡ g.row.N;
  done : (k : ℕ) → k < l.p → item l.out k ≡ rescaled l.kind l.qp k (item l.sums k);
}
