use Rattle.std.proofs.Common.{◌≡◌, ◌<◌, ◌+◌, ◌*◌, ℕ, length}
use Rattle.spec_residual.specs.Blocks.{item}
use Rattle.transform_quant.specs.Lines.{forward8_line, row8_by}
use Rattle.transform_quant.proofs.forward8x8.forward8_pass.Given as goal

abbrev pub invariant-loop-i : goal.invariant-loop-i
invariant-loop-i l = record {
  long : length l.out ≡ 64;
  columns : (a b : ℕ) → a < l.i → b < 8 → item l.out (8 * b + a) ≡ row8_by forward8_line l.x a b;
}
