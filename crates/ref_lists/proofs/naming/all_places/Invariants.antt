use Rattle.std.proofs.Common.{◌≡◌, length, map, take}
use Rattle.arrayvec.specs.ArrayVec.{array_vec_len}
use Rattle.spec_lists.specs.References.{Reference as Shown}
use Rattle.ref_lists.specs.declared.held.Reference.{Reference}
use Rattle.ref_lists.specs.Entries.{entries, ArePlaces}
use Rattle.ref_lists.proofs.naming.all_places.Given as goal

abbrev pub invariant-loop-place : goal.invariant-loop-place
invariant-loop-place l =
    (array_vec_len l.places ≡ l.place) × ((seen : Reference → Shown) → entries (map seen l.held) l.places.items ≡ take l.place (map seen l.held)) × ArePlaces (length l.held) l.places.items
