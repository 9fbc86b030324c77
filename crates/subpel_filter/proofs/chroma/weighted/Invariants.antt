use Rattle.std.proofs.Common.{ℕ, ◌≡◌, ◌<◌, ◌+◌, ◌*◌, ◌/◌, get_or}
use Rattle.subpel_filter.proofs.chroma.weighted.Given as goal

abbrev pub invariant-loop-i : goal.invariant-loop-i
invariant-loop-i l = (k : ℕ) → k < l.i → get_or l.out k 0 ≡ (l.by.here * get_or l.a k 0 + l.by.right * get_or l.a (k + 1) 0 + l.by.below * get_or l.b k 0 + l.by.both * get_or l.b (k + 1) 0 + 32) / 64
