use Rattle.std.proofs.Common.{◌≡◌, ◌≤◌, ◌-ℤ◌, ℤ, [], length, drop}
use Rattle.std.specs.Prelude.{nat_lt}
use Rattle.std.specs.List.{filter}
use Rattle.ref_lists.specs.Held.{natural, ranked, all_seen_from, IsOrigin}
use Rattle.ref_lists.proofs.naming.next_shown.Given as goal

abbrev pub invariant-loop-k : goal.invariant-loop-k
invariant-loop-k l =
    (l.places.items ≡ []) × (l.k ≤ length l.held) × ((origin : ℤ) → IsOrigin origin (ranked l.rank) l.held → filter (λ r. nat_lt (natural (ranked l.rank -ℤ origin)) r.poc) (drop l.k (all_seen_from origin l.held)) ≡ [])

abbrev pub decreases-loop-k : goal.decreases-loop-k
decreases-loop-k l = l.k
