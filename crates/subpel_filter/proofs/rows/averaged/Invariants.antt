use Rattle.std.proofs.Common.{ℕ, ◌≡◌, ◌<◌, ◌≤◌, get_or}
use Rattle.spec_inter.specs.Taps.{mean}
use Rattle.subpel_filter.proofs.rows.averaged.Given as goal

abbrev pub invariant-loop-i : goal.invariant-loop-i
invariant-loop-i l = record {
  done : (k : ℕ) → k < l.i → get_or l.out k 0 ≡ mean (get_or l.fn.out k 0) (get_or l.a k 0);
  left : (k : ℕ) → l.i ≤ k → get_or l.out k 0 ≡ get_or l.fn.out k 0;
}
