-- References that are held one after another.
use Rattle.std.proofs.Common.{ℕ, ℤ, zero, suc, ◌≡◌, ◌≤◌, ◌+◌, List, [], ◌∷◌, take, sym, subst, arith}
use Rattle.std.specs.Prelude.{◌<ℤ◌}
use Rattle.spec_lists.specs.References.{Reference as Shown, slid}
use Rattle.ref_lists.specs.declared.held.Reference.{Reference}
use Rattle.ref_lists.specs.Held.{all_seen}
use Rattle.ref_lists.specs.Stored.{order_counts, IsNumberedNext, IsShownLast}

pub none_numbered : (n : ℕ) (held : List Shown) → held ≡ [] → IsNumberedNext n held
none_numbered n [] e = tt
none_numbered n (x ∷ xs) e = absurd cc

pub none_shown : (poc : ℤ) (held : List Reference) → all_seen held ≡ [] → IsShownLast poc (order_counts held)
none_shown poc [] e = tt
none_shown poc (r ∷ rs) e = absurd cc

pub next_numbered : (n : ℕ) (x : Shown) (places : ℕ) (old new : List Shown) → new ≡ slid places x old → 1 ≤ places → n ≡ x.frame_num + 1 → IsNumberedNext n new
unfolding slid
next_numbered n x zero old new e h f = absurd (omega (arith, h))
next_numbered n x (suc m) old new e h f = subst (IsNumberedNext n) (sym e) f

pub next_shown : (poc q : ℤ) (places : ℕ) (old new : List ℤ) → new ≡ take places (q ∷ old) → 1 ≤ places → q <ℤ poc → IsShownLast poc new
next_shown poc q zero old new e h f = absurd (omega (arith, h))
next_shown poc q (suc m) old new e h f = subst (IsShownLast poc) (sym e) f
