use Rattle.std.proofs.Common.{ℤ, ◌≡◌, List, [], ◌∷◌}
use Rattle.ref_lists.specs.declared.held.Reference.{Reference}
use Rattle.ref_lists.specs.Held.{all_seen}
use Rattle.ref_lists.specs.Stored.{references_of, order_counts, IsShownLast}
use Rattle.slice_coder.proofs.tests.skips_what_stays.Goals as goal

first_shown : (poc : ℤ) (held : List Reference) → all_seen held ≡ [] → IsShownLast poc (order_counts held)
first_shown poc [] e = tt
first_shown poc (r ∷ rs) e = absurd cc

pub slide-requires-clause-poc : goal.slide-requires-clause-poc
slide-requires-clause-poc g c = first_shown c.in_ok-reference.reference.poc (references_of c.in_ok-store.store) c.in_ok-store.ensures.nothing
