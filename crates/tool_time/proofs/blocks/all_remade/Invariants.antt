use Rattle.std.proofs.Common.{◌≡◌, ◌<◌, ℕ, length}
use Rattle.spec_residual.specs.Blocks.{item}
use Rattle.tool_time.specs.Through.{remade}
use Rattle.tool_time.proofs.blocks.all_remade.Given as goal

abbrev pub invariant-loop-p : goal.invariant-loop-p
invariant-loop-p g l = record {
  long : length l.out ≡ g.row.N;
  done : (k : ℕ) → k < l.p → item l.out k ≡ remade l.kind l.intra l.qp k (item l.c k);
}
