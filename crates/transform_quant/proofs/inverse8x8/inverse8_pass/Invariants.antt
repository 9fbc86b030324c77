use Rattle.std.proofs.Common.{◌≡◌, ◌<◌, ◌+◌, ◌*◌, ℕ, length}
use Rattle.spec_residual.specs.Blocks.{item}
use Rattle.transform_quant.specs.Lines.{row8_by}
use Rattle.spec_residual.specs.Inverse.{line8}
use Rattle.transform_quant.proofs.inverse8x8.inverse8_pass.Given as goal

abbrev pub invariant-loop-i : goal.invariant-loop-i
invariant-loop-i l = record {
  long : length l.out ≡ 64;
  columns : (a b : ℕ) → a < l.i → b < 8 → item l.out (8 * b + a) ≡ row8_by line8 l.x a b;
}
