use Rattle.std.proofs.Common.{◌≡◌, ◌≤◌, ◌-ℤ◌, ℤ, length, take}
use Rattle.std.specs.Prelude.{nat_lt}
use Rattle.std.specs.List.{filter}
use Rattle.arrayvec.specs.ArrayVec.{array_vec_len}
use Rattle.ref_lists.specs.Held.{natural, ranked, all_seen_from, IsOrigin}
use Rattle.ref_lists.specs.Entries.{entries, ArePlaces}
use Rattle.ref_lists.proofs.naming.earlier.Given as goal

abbrev pub invariant-loop-k : goal.invariant-loop-k
invariant-loop-k l =
    (array_vec_len l.places ≤ l.k)
    × ((origin : ℤ) → IsOrigin origin (ranked l.rank) l.held → entries (all_seen_from origin l.held) l.places.items ≡ filter (λ r. nat_lt r.poc (natural (ranked l.rank -ℤ origin))) (take l.k (all_seen_from origin l.held)))
    × ArePlaces (length l.held) l.places.items
