use Rattle.std.proofs.Common.{◌≡◌, length}
use Rattle.std.specs.List.{AllByRecursion}
use Rattle.picture_coder.specs.Sizes.{HasSizes}
use Rattle.enc_session.proofs.opening.blank_slots.Given as goal

abbrev pub invariant-loop : goal.invariant-loop
invariant-loop l = (length l.slots.items ≡ l.counter) × AllByRecursion (HasSizes l.head.width l.head.height) l.slots.items
