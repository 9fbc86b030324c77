use Rattle.std.proofs.Common.{◌≡◌, ◌<◌, ℕ, length, get_or, pos, ◌*ℤ◌}
use Rattle.spec_residual.specs.Blocks.{item}
use Rattle.transform_quant.proofs.blocks4.products.Given as goal

abbrev pub invariant-loop-p : goal.invariant-loop-p
invariant-loop-p l = record {
  long : length l.out ≡ 16;
  done : (k : ℕ) → k < l.p → item l.out k ≡ item l.levels k *ℤ pos (get_or l.factors k 0);
}
