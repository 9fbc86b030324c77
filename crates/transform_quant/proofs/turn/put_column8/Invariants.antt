use Rattle.std.proofs.Common.{◌≡◌, ◌≢◌, ◌<◌, ◌+◌, ◌*◌, ℕ, length}
use Rattle.spec_residual.specs.Blocks.{item}
use Rattle.transform_quant.proofs.turn.put_column8.Given as goal

abbrev pub invariant-loop-j : goal.invariant-loop-j
invariant-loop-j l = record {
  long : length l.out ≡ 64;
  column : (b : ℕ) → b < l.j → item l.out (8 * b + l.i) ≡ item l.line b;
  others : (a b : ℕ) → a < 8 → b < 8 → a ≢ l.i → item l.out (8 * b + a) ≡ item l.initial.out (8 * b + a);
}
