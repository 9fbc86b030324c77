-- The lists of a P picture with a command: they are there.
use Rattle.std.proofs.Common.{ℕ, zero, suc, ◌+◌, ◌-◌, ◌≡◌, ◌<◌, List, [], ◌∷◌, length, map, Bool, true, false, cond, Option, Some, None, refl, ap, subst, ◌∙◌, arith}
use Rattle.std.specs.Prelude.{◌==◌, option_and_then, if◌then◌else◌}
use Rattle.std.specs.Option.{option_map}
use Rattle.std.specs.List.{AllByRecursion, find, slice_get}
use Rattle.std.proofs.lemmas.Bool.Decides.{nat_tests}
use Rattle.enc_tables.specs.declared.records.SliceKind.TheVariants.{P}
use Rattle.spec_headers.specs.declared.heads.SliceHead.{SliceHead}
use Rattle.spec_lists.specs.References.{Reference}
use Rattle.spec_lists.specs.Orders.{Falling}
use Rattle.spec_lists.specs.Lists.{Lists, number_distance, is_so_far, in_front, modified, cut, lists_of}
use Rattle.spec_lists.specs.Reordering.{difference, first_least_place, command_for, moved_for}
use Rattle.spec_lists.proofs.Sorted.{plain_distance, p_list, cut_all, by_parts, parts_with}

-- a reference that has so many numbers between is found
pub record Found (is : Reference → Bool) (rs : List Reference) : Type 0 where
  pub one : Reference
  pub first : find is rs ≡ Some one

found_by : (is : Reference → Bool) (r : Reference) (rs : List Reference) (b : Bool) → is r ≡ b → (b ≡ false → Found is rs) → Found is (r ∷ rs)
found_by is r rs true e ih = record { one = r; first = ap (λ t. cond t (Some r) (find is rs)) e }
found_by is r rs false e ih = let f = ih refl in record { one = f.one; first = ap (λ t. cond t (Some r) (find is rs)) e ∙ f.first }

found : (is : Reference → Bool) (rs : List Reference) (k : ℕ) (r : Reference) → slice_get rs k ≡ Some r → is r ≡ true → Found is rs
found is [] k r e t = let no : None ≡ Some r = e in absurd cc
found is (x ∷ rs) zero r e t = let same : x ≡ r = cc in record { one = x; first = ap (λ b. cond b (Some x) (find is rs)) (ap is same ∙ t) }
found is (x ∷ rs) (suc k) r e t = found_by is x rs (is x) refl (λ no. found is rs k r e t)

same : (n : ℕ) → (n == n) ≡ true
same n = grind (arith, nat_tests)

-- where a picture is found, the lists are there
pub moved_lists : (h : SliceHead) (held : List Reference) (d : ℕ) → h.kind ≡ P → h.refs0 ≡ length held → h.refs1 ≡ 0 → h.moved ≡ Some d → h.frame_num < 65536 → AllByRecursion (λ r. r.frame_num < h.frame_num) held → Falling (λ r. r.frame_num) held
    → (f : Found (is_so_far h.frame_num (d + 1)) held) → lists_of h held ≡ Some (record { list0 = in_front h.refs0 (is_so_far h.frame_num (d + 1)) held f.one; list1 = [] })
unfolding by_parts
moved_lists h held d kind some none moved small low falls f =
    let is : Reference → Bool = is_so_far h.frame_num (d + 1) in
    let end : List Reference → Option Lists = λ list0. option_map (λ list1. let x : Lists = record { list0 = list0; list1 = list1 } in x) (cut 0 []) in
    parts_with h held P (Some d) (length held) 0 kind moved some none
    ∙ ap (λ (l : List Reference). option_and_then end (option_and_then (modified h held (Some d)) (cut (length held) l))) (p_list h.frame_num held small low falls)
    ∙ ap (λ o. option_and_then end (option_and_then (modified h held (Some d)) o)) (cut_all held)
    ∙ ap (λ o. option_and_then end (option_map (in_front h.refs0 is held) o)) f.first

-- the encoder's own command names a picture that is held
held_below : (n : ℕ) (rs : List Reference) (k : ℕ) (r : Reference) → AllByRecursion (λ r. r.frame_num < n) rs → slice_get rs k ≡ Some r → r.frame_num < n
held_below n [] k r h e = let no : None ≡ Some r = e in absurd cc
held_below n (x ∷ rs) zero r h e = let same : x ≡ r = cc in subst (λ (y : Reference). y.frame_num < n) same h.0
held_below n (x ∷ rs) (suc k) r h e = held_below n rs k r h.1 e

by_entry : (n d : ℕ) (held : List Reference) (k : ℕ) (o : Option Reference) → n < 65536 → AllByRecursion (λ r. r.frame_num < n) held → slice_get held k ≡ o → command_for n o ≡ Some d → Found (is_so_far n (d + 1)) held
by_entry n d held k None small low e c = absurd cc
by_entry n d held k (Some r) small low e c =
    let same : number_distance n r - 1 ≡ d = cc in
    let far : number_distance n r ≡ n - r.frame_num = plain_distance n r.frame_num (held_below n held k r low e) small in
    let some = held_below n held k r low e in
    found (is_so_far n (d + 1)) held k r e (is_same (number_distance n r) (d + 1) (omega (arith, same, far, some)))
  where
    is_same : (a b : ℕ) → a ≡ b → (a == b) ≡ true
    is_same a b h = grind (arith, nat_tests)

by_place : (n d : ℕ) (held : List Reference) (k : ℕ) (b : Bool) → n < 65536 → AllByRecursion (λ r. r.frame_num < n) held → (if b then None else command_for n (slice_get held k)) ≡ Some d → Found (is_so_far n (d + 1)) held
by_place n d held k true small low e = absurd cc
by_place n d held k false small low e = by_entry n d held k (slice_get held k) small low refl e

pub command_found : (n d : ℕ) (source : List ℕ) (held : List Reference) → n < 65536 → AllByRecursion (λ r. r.frame_num < n) held → moved_for n source held ≡ Some d → Found (is_so_far n (d + 1)) held
unfolding moved_for
command_found n d source held small low e =
    let k : ℕ = first_least_place (map (λ r. difference source r.planes.luma) held) in by_place n d held k (k == 0) small low e
