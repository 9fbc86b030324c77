-- A slot, lent for writing.
use Rattle.std.specs.Prelude.{ℕ}
use Rattle.std.specs.Borrow.{Lends, MutBor, Fml}
use Rattle.std.specs.Vec.{with_item}
use Rattle.picture_planes.specs.declared.picture.Picture.{Picture}
use Rattle.picture_planes.specs.contracts.picture.Picture.{the_row as picture_row}
use Rattle.enc_session.specs.declared.session.Session.{Session}
use Rattle.enc_session.specs.contracts.session.Session.{the_row}

-- s with p in its slot k
abbrev pub with_slot : Session → ℕ → Picture → Session
with_slot s k p = record s { slots = with_item s.slots k p }

-- r is slot k of s, lent for writing: what is left there is the slot's picture afterwards, and nothing else changes
abbrev pub LendsSlot : MutBor Session → ℕ → MutBor Picture → Fml
LendsSlot s k r = Lends the_row picture_row s r (with_slot s.now k)
