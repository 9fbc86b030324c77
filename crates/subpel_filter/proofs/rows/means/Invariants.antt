use Rattle.std.proofs.Common.{ℕ, ◌≡◌, ◌<◌, get_or, length}
use Rattle.spec_inter.specs.Taps.{mean}
use Rattle.subpel_filter.proofs.rows.means.Given as goal

abbrev pub invariant-loop-i : goal.invariant-loop-i
invariant-loop-i g l = (length l.row ≡ g.row.W) × ((k : ℕ) → k < l.i → get_or l.row k 0 ≡ mean (get_or l.a k 0) (get_or l.b k 0))
