use Rattle.std.proofs.Common.{◌≡◌, ◌≤◌, ◌<◌, ◌-◌, length, drop, get_or}
use Rattle.spec_lists.specs.Reordering.{least_from, first_least_place}
use Rattle.ref_lists.proofs.naming.first_least.Given as goal

abbrev pub invariant-loop-k : goal.invariant-loop-k
invariant-loop-k l =
    (1 ≤ l.k) × (l.best < l.k) × (l.best ≤ length l.numbers - 1) × (least_from (get_or l.numbers l.best 0) l.best l.k (drop l.k l.numbers) ≡ first_least_place l.numbers)
