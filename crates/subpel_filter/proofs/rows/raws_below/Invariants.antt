use Rattle.std.proofs.Common.{ℕ, ◌<◌, get_or}
use Rattle.subpel_filter.specs.Rows.{RawDown}
use Rattle.subpel_filter.proofs.rows.raws_below.Given as goal

abbrev pub invariant-loop-i : goal.invariant-loop-i
invariant-loop-i l = (k : ℕ) → k < l.i → RawDown l.a l.b l.c l.d l.e l.f k (get_or l.out k 0)
