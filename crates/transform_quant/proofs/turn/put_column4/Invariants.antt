use Rattle.std.proofs.Common.{◌≡◌, ◌≢◌, ◌<◌, ◌+◌, ◌*◌, ℕ, length}
use Rattle.spec_residual.specs.Blocks.{item}
use Rattle.transform_quant.proofs.turn.put_column4.Given as goal

abbrev pub invariant-loop-j : goal.invariant-loop-j
invariant-loop-j l = record {
  long : length l.out ≡ 16;
  column : (b : ℕ) → b < l.j → item l.out (4 * b + l.i) ≡ item l.line b;
  others : (a b : ℕ) → a < 4 → b < 4 → a ≢ l.i → item l.out (4 * b + a) ≡ item l.initial.out (4 * b + a);
}
