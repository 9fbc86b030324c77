use Rattle.std.proofs.Common.{◌≡◌, ◌<◌, ◌+◌, ◌*◌, ℕ, length}
use Rattle.spec_residual.specs.Blocks.{item}
use Rattle.transform_quant.specs.Lines.{hadamard4_line, row4_by}
use Rattle.transform_quant.proofs.hadamard.hadamard4_pass.Given as goal

abbrev pub invariant-loop-i : goal.invariant-loop-i
invariant-loop-i l = record {
  long : length l.out ≡ 16;
  columns : (a b : ℕ) → a < l.i → b < 4 → item l.out (4 * b + a) ≡ row4_by hadamard4_line l.x a b;
}
