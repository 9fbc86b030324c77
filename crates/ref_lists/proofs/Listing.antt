-- The lists that are named are those of a picture of a kind.
use Rattle.std.proofs.Common.{ℤ, pos, ◌-ℤ◌, ℕ, ◌+◌, ◌≡◌, ◌≤◌, List, [], ◌∷◌, length, take, map, filter, refl, ap, ap₂, sym, subst, ◌∙◌, arith}
use Rattle.std.specs.Prelude.{nat_lt}
use Rattle.std.proofs.lemmas.Grind.{common_steps}
use Rattle.std.proofs.lemmas.Int.{ints}
use Rattle.enc_tables.specs.declared.records.SliceKind.{SliceKind}
use Rattle.enc_tables.specs.declared.records.SliceKind.TheVariants.{I, P, B}
use Rattle.spec_lists.specs.References.{Reference as Shown}
use Rattle.spec_lists.specs.Lists.{Lists as ShownLists, shown_behind}
use Rattle.ref_lists.specs.declared.held.Reference.{Reference}
use Rattle.ref_lists.specs.Held.{natural, seen, all_seen, seen_from, all_seen_from, IsOrigin, Counts}
use Rattle.ref_lists.specs.Entries.{entries, next_number, AreInOrder}
use Rattle.ref_lists.specs.Named.{lists_at}
use Rattle.ref_lists.proofs.Sorting.{counts_from, ordered_from, numbered, before_is}
use Rattle.ref_lists.proofs.Entering.{length-seen, no_entry}

abbrev pub pair : List Shown → List Shown → ShownLists
pair us vs = record { list0 = us; list1 = vs }

pub few_taken : (n : ℕ) (places : List Reference) → n ≤ length places → length places ≤ 4 → length (take n places) ≤ 4
few_taken n places h few = grind (arith, common_steps)

counted_from : (origin : ℤ) (held : List Reference) → AreInOrder held → Counts (next_number (all_seen_from origin held)) (all_seen_from origin held)
counted_from origin [] o = tt
counted_from origin (r ∷ rs) o = counts_from origin (r.frame_num + 1) (r ∷ rs) o.0

-- `front` are the references that places stand for, `held` those of the store
pub i_named : (kind : SliceKind) (poc : ℕ) (seen : Reference → Shown) (front held : List Reference) (ks js : List ℕ) → kind ≡ I → ks ≡ [] → js ≡ [] → pair (entries (map seen front) ks) (entries (map seen front) js) ≡ lists_at kind poc (map seen held)
i_named kind poc seen front held ks js k a b = ap₂ pair (no_entry (map seen front) ks a) (no_entry (map seen front) js b) ∙ ap (λ k. lists_at k poc (map seen held)) (sym k)

p_named : (kind : SliceKind) (poc : ℕ) (seen : Reference → Shown) (front held : List Reference) (ks js : List ℕ) → kind ≡ P → front ≡ held → Counts (next_number (map seen held)) (map seen held) → length held ≤ 4 → entries (map seen front) ks ≡ map seen front → js ≡ [] → pair (entries (map seen front) ks) (entries (map seen front) js) ≡ lists_at kind poc (map seen held)
p_named kind poc seen front held ks js k e c few a b =
    let long = length-seen seen held in
    ap₂ pair (a ∙ ap (map seen) e ∙ sym (numbered (map seen held) c (omega (arith, long, few)))) (no_entry (map seen front) js b) ∙ ap (λ k. lists_at k poc (map seen held)) (sym k)

pub p_seen : (kind : SliceKind) (poc : ℕ) (front held : List Reference) (ks js : List ℕ) → kind ≡ P → front ≡ held → AreInOrder held → length held ≤ 4 → entries (all_seen front) ks ≡ all_seen front → js ≡ [] → pair (entries (all_seen front) ks) (entries (all_seen front) js) ≡ lists_at kind poc (all_seen held)
p_seen kind poc front held ks js k e o few a b = p_named kind poc seen front held ks js k e o.0 few a b

pub p_from : (kind : SliceKind) (poc : ℕ) (origin : ℤ) (front held : List Reference) (ks js : List ℕ) → kind ≡ P → front ≡ held → AreInOrder held → length held ≤ 4 → entries (all_seen_from origin front) ks ≡ all_seen_from origin front → js ≡ [] → pair (entries (all_seen_from origin front) ks) (entries (all_seen_from origin front) js) ≡ lists_at kind poc (all_seen_from origin held)
p_from kind poc origin front held ks js k e o few a b = p_named kind poc (seen_from origin) front held ks js k e (counted_from origin held o) few a b

pub b_from : (kind : SliceKind) (origin z poc : ℤ) (front held : List Reference) (ks js : List ℕ) → kind ≡ B → z ≡ poc → front ≡ held → AreInOrder held → IsOrigin origin poc held
    → (IsOrigin origin z front → entries (all_seen_from origin front) ks ≡ filter (λ r. nat_lt r.poc (natural (z -ℤ origin))) (all_seen_from origin front))
    → (IsOrigin origin z front → entries (all_seen_from origin front) js ≡ take 1 (shown_behind (natural (z -ℤ origin)) (all_seen_from origin front)))
    → pair (entries (all_seen_from origin front) ks) (entries (all_seen_from origin front) js) ≡ lists_at kind (natural (poc -ℤ origin)) (all_seen_from origin held)
b_from kind origin z poc front held ks js k same e o low f g =
    let under : IsOrigin origin z front = subst (λ (hs : List Reference). IsOrigin origin z hs) (sym e) (subst (λ (y : ℤ). IsOrigin origin y held) (sym same) low) in
    let n : natural (z -ℤ origin) ≡ natural (poc -ℤ origin) = ap (λ (y : ℤ). natural (y -ℤ origin)) same in
    let a = f under ∙ ap₂ (λ (m : ℕ) (hs : List Reference). filter (λ r. nat_lt r.poc m) (all_seen_from origin hs)) n e in
    let b = g under ∙ ap₂ (λ (m : ℕ) (hs : List Reference). take 1 (shown_behind m (all_seen_from origin hs))) n e in
    ap₂ pair (a ∙ sym (before_is (natural (poc -ℤ origin)) (all_seen_from origin held) (ordered_from origin held low.1 o))) b
    ∙ ap (λ k. lists_at k (natural (poc -ℤ origin)) (all_seen_from origin held)) (sym k)

-- told from 0 they are as they are
zero_is : (z : ℤ) → natural (z -ℤ pos 0) ≡ natural z
zero_is z = let same : z -ℤ pos 0 ≡ z = omega (arith, ints) in ap natural same

from_zero : (held : List Reference) → all_seen_from (pos 0) held ≡ all_seen held
from_zero [] = refl
from_zero (r ∷ rs) = ap₂ (λ (n : ℕ) (hs : List Shown). record { planes = (seen r).planes; motion = r.records.items; poc = n; frame_num = r.frame_num } ∷ hs) (zero_is r.poc) (from_zero rs)

pub b_seen : (kind : SliceKind) (poc : ℤ) (front held : List Reference) (ks js : List ℕ) → pair (entries (all_seen_from (pos 0) front) ks) (entries (all_seen_from (pos 0) front) js) ≡ lists_at kind (natural (poc -ℤ pos 0)) (all_seen_from (pos 0) held) → pair (entries (all_seen front) ks) (entries (all_seen front) js) ≡ lists_at kind (natural poc) (all_seen held)
b_seen kind poc front held ks js h =
    ap (λ (hs : List Shown). pair (entries hs ks) (entries hs js)) (sym (from_zero front)) ∙ h
    ∙ ap₂ (λ (n : ℕ) (hs : List Shown). lists_at kind n hs) (zero_is poc) (from_zero held)
