use Rattle.std.proofs.Common.{ℕ, ℤ, zero, suc, ◌≡◌, ◌≤◌, ◌+◌, List, [], ◌∷◌, sym, subst, arith}
use Rattle.spec_lists.specs.References.{Reference as Shown, slid}
use Rattle.ref_lists.specs.declared.held.Reference.{Reference}
use Rattle.ref_lists.specs.Held.{seen, all_seen}
use Rattle.ref_lists.specs.Stored.{references_of, held_of, places_of, order_counts, IsNumberedNext, IsShownLast}
use Rattle.macroblock_tests.proofs.inter_plans.store.Goals as goal

first_shown : (poc : ℤ) (held : List Reference) → all_seen held ≡ [] → IsShownLast poc (order_counts held)
first_shown poc [] e = tt
first_shown poc (r ∷ rs) e = absurd cc

next : (n : ℕ) (x : Shown) (places : ℕ) (old new : List Shown) → new ≡ slid places x old → 1 ≤ places → n ≡ x.frame_num + 1 → IsNumberedNext n new
unfolding slid
next n x zero old new e h f = absurd (omega (arith, h))
next n x (suc m) old new e h f = subst (IsNumberedNext n) (sym e) f

pub slide-requires-clause-poc : goal.slide-requires-clause-poc
slide-requires-clause-poc c = first_shown c.in_ok-first.first.poc (references_of c.in_ok-store.store) c.in_ok-store.ensures.nothing

pub slide-requires-2-clause-frame_num : goal.slide-requires-2-clause-frame_num
slide-requires-2-clause-frame_num c =
    let places : 1 ≤ places_of c.in_ok-store.store = omega (arith, c.in_ok-store.ensures.size.2) in
    let number : c.in_ok-second.second.frame_num ≡ c.in_ok-first.first.frame_num + 1 = omega (arith, c.in_ok-first.ensures.frame_num, c.in_ok-second.ensures.frame_num) in
    next c.in_ok-second.second.frame_num (seen c.in_ok-first.first) (places_of c.in_ok-store.store) (held_of c.in_ok-store.store) (held_of c.slide.new.self) c.slide.ensures.held places number
