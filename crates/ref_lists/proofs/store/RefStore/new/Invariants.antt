use Rattle.std.proofs.Common.{◌≡◌, length}
use Rattle.std.specs.List.{AllByRecursion}
use Rattle.picture_planes.specs.Clamped.{rounded}
use Rattle.ref_lists.specs.Held.{IsMade}
use Rattle.ref_lists.proofs.store.RefStore.new.Given as goal

abbrev pub invariant-loop : goal.invariant-loop
invariant-loop l = (length l.places.items ≡ l.counter) × AllByRecursion (IsMade (rounded l.width) (rounded l.height)) l.places.items
