use Rattle.std.proofs.Common.{◌≡◌, ◌<◌, ℕ, length}
use Rattle.std.specs.Prelude.{slice_index}
use Rattle.spec_inter.specs.Taps.{mean}
use Rattle.bi_pred.proofs.average.Given as goal

abbrev pub invariant-loop-i : goal.invariant-loop-i
invariant-loop-i l = (length l.out ≡ length l.a) × ((k : ℕ) → k < l.i → slice_index l.out k ≡ mean (slice_index l.a k) (slice_index l.b k))
