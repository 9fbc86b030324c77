use Rattle.std.proofs.Common.{ℕ, ◌≡◌, ◌<◌, get_or}
use Rattle.subpel_filter.specs.Rows.{half_down}
use Rattle.subpel_filter.proofs.rows.halves_below.Given as goal

abbrev pub invariant-loop-i : goal.invariant-loop-i
invariant-loop-i l = (k : ℕ) → k < l.i → get_or l.out k 0 ≡ half_down l.a l.b l.c l.d l.e l.f k
