-- Entries of lists by places among the held references, and the order in which these stand.
use Rattle.std.specs.Prelude.{ℕ, ℤ, ◌+◌, ◌<◌, ◌<ℤ◌, List, [], ◌∷◌, Some, None}
use Rattle.std.specs.List.{slice_get, AllByRecursion, AllByRecursion-prop}
use Rattle.std.specs.Coded.{×_prop, Unit-prop, Coded-set, coded_ℕ}
use lib.Dec.{T_prop}
use lib.Signed.{lt_z}
use Rattle.spec_lists.specs.References.{Reference as Shown}
use Rattle.spec_lists.specs.Heads.{newest_number}
use Rattle.ref_lists.specs.declared.held.Reference.{Reference}
use Rattle.ref_lists.specs.Held.{all_seen, Counts}

-- the references at these places
unfoldable pub entries : List Shown → List ℕ → List Shown
entries held [] = []
entries held (k ∷ ks) = elim (slice_get held k) [ None ↦ entries held ks | Some r ↦ r ∷ entries held ks ]

-- they are places among so many
abbrev pub ArePlaces : ℕ → List ℕ → Type 0
ArePlaces count places = AllByRecursion (λ k. k < count) places

-- the frame_num of the picture that follows
abbrev pub next_number : List Shown → ℕ
next_number held = newest_number held + 1

-- each is shown behind all that stand behind it
abbrev pub AreShownInTurn : List Reference → Type 0
AreShownInTurn [] = Unit {0}
AreShownInTurn (r ∷ rs) = AllByRecursion (λ q. q.poc <ℤ r.poc) rs × AreShownInTurn rs

-- held references are numbered without gaps, and each is shown behind those before it
abbrev pub AreInOrder : List Reference → Type 0
AreInOrder held = Counts (next_number (all_seen held)) (all_seen held) × AreShownInTurn held

-- there is one way at most in which they stand so
pub Counts-prop : (next : ℕ) (held : List Shown) → IsProp (Counts next held)
Counts-prop next [] = Unit-prop
Counts-prop next (r ∷ rs) = ×_prop (Coded-set coded_ℕ (r.frame_num + 1) next) (Counts-prop r.frame_num rs)

below-prop : (a b : ℤ) → IsProp (a <ℤ b)
below-prop a b = λ x y i. record { lt = T_prop (lt_z a b) x.lt y.lt i }

pub AreShownInTurn-prop : (held : List Reference) → IsProp (AreShownInTurn held)
AreShownInTurn-prop [] = Unit-prop
AreShownInTurn-prop (r ∷ rs) = ×_prop (AllByRecursion-prop _ (λ q. below-prop q.poc r.poc) rs) (AreShownInTurn-prop rs)

pub AreInOrder-prop : (held : List Reference) → IsProp (AreInOrder held)
AreInOrder-prop held = ×_prop (Counts-prop (next_number (all_seen held)) (all_seen held)) (AreShownInTurn-prop held)
