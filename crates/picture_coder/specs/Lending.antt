-- The coded picture, lent for writing.
use Rattle.std.specs.Borrow.{Lends, MutBor, Fml}
use Rattle.ref_lists.specs.declared.held.Reference.{Reference}
use Rattle.ref_lists.specs.contracts.held.Reference.{the_row as reference_row}
use Rattle.picture_coder.specs.declared.coder.PictureCoder.{PictureCoder}
use Rattle.picture_coder.specs.contracts.coder.PictureCoder.{the_row}

-- c with r in the place of its reference
abbrev pub with_reference : PictureCoder → Reference → PictureCoder
with_reference c r = record c { reference = r }

-- r is the reference of c, lent for writing: what is left there is the coder's afterwards, and nothing else changes
abbrev pub LendsReference : MutBor PictureCoder → MutBor Reference → Fml
LendsReference c r = Lends the_row reference_row c r (with_reference c.now)
