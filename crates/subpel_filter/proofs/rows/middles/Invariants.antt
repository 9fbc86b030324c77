use Rattle.std.proofs.Common.{ℕ, ◌≡◌, ◌<◌, get_or, length}
use Rattle.subpel_filter.specs.Rows.{middle_down}
use Rattle.subpel_filter.proofs.rows.middles.Given as goal

abbrev pub invariant-loop-i : goal.invariant-loop-i
invariant-loop-i g l = (length l.row ≡ g.row.W) × ((k : ℕ) → k < l.i → get_or l.row k 0 ≡ middle_down l.a l.b l.c l.d l.e l.f k)
