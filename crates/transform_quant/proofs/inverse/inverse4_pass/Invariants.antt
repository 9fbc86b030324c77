use Rattle.std.proofs.Common.{◌≡◌, ◌<◌, ◌+◌, ◌*◌, ℕ, length}
use Rattle.spec_residual.specs.Blocks.{item}
use Rattle.transform_quant.specs.Lines.{row4_by}
use Rattle.spec_residual.specs.Inverse.{line4}
use Rattle.transform_quant.proofs.inverse.inverse4_pass.Given as goal

abbrev pub invariant-loop-i : goal.invariant-loop-i
invariant-loop-i l = record {
  long : length l.out ≡ 16;
  columns : (a b : ℕ) → a < l.i → b < 4 → item l.out (4 * b + a) ≡ row4_by line4 l.x a b;
}
