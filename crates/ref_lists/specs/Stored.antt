-- What a store holds.
use Rattle.std.specs.Prelude.{ℕ, ℤ, ◌≡◌, ◌<ℤ◌, ◌+◌, List, [], ◌∷◌, length, take, map}
use Rattle.spec_lists.specs.References.{Reference as Shown}
use Rattle.ref_lists.specs.declared.held.Reference.{Reference}
use Rattle.ref_lists.specs.declared.store.RefStore.{RefStore}
use Rattle.ref_lists.specs.Held.{all_seen}

-- the references since the last IDR picture, the newest first
abbrev pub references_of : RefStore → List Reference
references_of s = take s.count s.places.items

-- as the decoder's definition has them
abbrev pub held_of : RefStore → List Shown
held_of s = all_seen (references_of s)

-- for how many references there are places (max_num_ref_frames)
abbrev pub places_of : RefStore → ℕ
places_of s = length s.places.items

-- luma samples in a row of each reference, and rows
abbrev pub width_of : RefStore → ℕ
width_of s = s.width

abbrev pub height_of : RefStore → ℕ
height_of s = s.height

-- sizes of luma planes, and the number of places
abbrev pub SameStore : RefStore → RefStore → Type 0
SameStore old new = (width_of new ≡ width_of old) × (height_of new ≡ height_of old) × (places_of new ≡ places_of old)

-- the order counts of references
abbrev pub order_counts : List Reference → List ℤ
order_counts held = map (λ r. r.poc) held

-- the frame_num is one more than that of the newest of those that are held
abbrev pub IsNumberedNext : ℕ → List Shown → Type 0
IsNumberedNext frame_num [] = Unit {0}
IsNumberedNext frame_num (r ∷ rs) = frame_num ≡ r.frame_num + 1

-- the order count is above that of the newest
abbrev pub IsShownLast : ℤ → List ℤ → Type 0
IsShownLast poc [] = Unit {0}
IsShownLast poc (q ∷ qs) = q <ℤ poc
