use Rattle.std.proofs.Common.{ℕ, ◌≡◌, ◌<◌, get_or, length}
use Rattle.subpel_filter.specs.Rows.{half_down}
use Rattle.subpel_filter.proofs.rows.halves_down.Given as goal

abbrev pub invariant-loop-i : goal.invariant-loop-i
invariant-loop-i g l = (length l.row ≡ g.row.W) × ((k : ℕ) → k < l.i → get_or l.row k 0 ≡ half_down l.a l.b l.c l.d l.e l.f k)
