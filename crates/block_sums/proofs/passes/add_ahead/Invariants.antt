use Rattle.std.proofs.Common.{◌≡◌, ◌≤◌, ◌<◌, ◌+◌, ℕ, get_or}
use Rattle.block_sums.proofs.passes.add_ahead.Given as goal

abbrev pub invariant-loop-i : goal.invariant-loop-i
invariant-loop-i l = record {
  done : (n : ℕ) → n < l.i → get_or l.sums n 0 ≡ get_or l.fn.sums n 0 + get_or l.fn.sums (n + l.ahead) 0;
  left : (n : ℕ) → l.i ≤ n → get_or l.sums n 0 ≡ get_or l.fn.sums n 0;
}
