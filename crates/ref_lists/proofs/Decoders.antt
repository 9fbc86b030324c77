-- The lists of an encoder's pictures are those that a decoder makes of their slices' headers.
use Rattle.std.proofs.Common.{ℕ, suc, ◌+◌, ◌≡◌, ◌≤◌, List, [], ◌∷◌, ◌++◌, length, take, Bool, true, false, cond, Option, Some, None, refl, ap, ap₂, ◌∙◌, arith, length-append}
use Rattle.std.specs.Prelude.{nat_le, ◌==◌, ◌||◌, option_and_then}
use Rattle.std.specs.Option.{option_map}
use Rattle.std.proofs.lemmas.Bool.Decides.{nat_tests}
use Rattle.std.proofs.lemmas.Grind.{common_steps}
use Rattle.enc_tables.specs.declared.records.SliceKind.{SliceKind}
use Rattle.enc_tables.specs.declared.records.SliceKind.TheVariants.{I, P, B}
use Rattle.spec_headers.specs.declared.heads.SliceHead.{SliceHead}
use Rattle.spec_lists.specs.References.{Reference as Shown}
use Rattle.spec_lists.specs.Lists.{Lists, by_number, shown_before, shown_behind, exchanged, other_way, cut, modified, lists_of}
use Rattle.spec_lists.proofs.Sorted.{by_parts, parts_with, cut_all}
use Rattle.ref_lists.specs.Entries.{next_number}
use Rattle.ref_lists.specs.Named.{lists_at, HasEntries}

is_le : (m n : ℕ) → m ≤ n → nat_le m n ≡ true
is_le m n h = grind (arith, nat_tests)

cut_front : (xs ys : List Shown) → cut (length xs) (xs ++ ys) ≡ Some xs
cut_front xs ys =
    let long : length (xs ++ ys) ≡ length xs + length ys = length-append xs ys in
    ap₂ (λ (b : Bool) (zs : List Shown). cond b (Some zs) None) (is_le (length xs) (length (xs ++ ys)) (omega (arith, long))) (front xs ys)
  where
    front : (xs ys : List Shown) → take (length xs) (xs ++ ys) ≡ xs
    front xs ys = grind (arith, common_steps)

cut_none : (xs : List Shown) → cut 0 xs ≡ Some []
cut_none xs = ap (λ b. cond b (Some (take 0 xs)) None) (is_le 0 (length xs) (omega arith))

cut_one : (x : Shown) (xs : List Shown) → cut 1 (x ∷ xs) ≡ Some (x ∷ [])
cut_one x xs = ap (λ b. cond b (Some (x ∷ [])) None) (is_le 1 (length (x ∷ xs)) (omega arith))

-- list 1 of one entry at most
way : (early late : List Shown) → 1 ≤ length early → cut (length (take 1 late)) (other_way early late) ≡ Some (take 1 late)
way [] late h = absurd (omega (arith, h))
way (e ∷ es) [] h = cut_none (other_way (e ∷ es) [])
way (e ∷ es) (l ∷ ls) h = ap (λ b. cut 1 (cond b (exchanged (l ∷ ls ++ e ∷ es)) (l ∷ ls ++ e ∷ es))) (some (length es) (length ls)) ∙ cut_one l (ls ++ e ∷ es)
  where
    some : (m n : ℕ) → ((suc m == 0) || (suc n == 0)) ≡ false
    some m n = grind (arith, nat_tests)

abbrev end : ℕ → List Shown → List Shown → Option Lists
end refs1 list1 list0 = option_map (λ list1. let x : Lists = record { list0 = list0; list1 = list1 } in x) (cut refs1 list1)

pub decoders : (kind : SliceKind) (poc : ℕ) (held : List Shown) (h : SliceHead) → h.kind ≡ kind → h.poc ≡ poc → h.frame_num ≡ next_number held → h.moved ≡ None → h.refs0 ≡ length (lists_at kind poc held).list0 → h.refs1 ≡ length (lists_at kind poc held).list1 → HasEntries kind (lists_at kind poc held)
    → lists_of h held ≡ Some (lists_at kind poc held)
unfolding by_parts
decoders I poc held h k p n m a b some = parts_with h held I None 0 0 k m a b ∙ refl
decoders P poc held h k p n m a b some =
    let list : List Shown = by_number (next_number held) held in
    parts_with h held P None (length list) 0 k m a b
    ∙ ap (λ f. option_and_then (end 0 []) (option_and_then (modified h held None) (cut (length list) (by_number f held)))) n
    ∙ ap (λ o. option_and_then (end 0 []) (option_and_then (modified h held None) o)) (cut_all list)
decoders B poc held h k p n m a b some =
    let early : List Shown = shown_before poc held in
    let late : List Shown = shown_behind poc held in
    parts_with h held B None (length early) (length (take 1 late)) k m a b
    ∙ ap (λ c. option_and_then (end (length (take 1 late)) (other_way (shown_before c held) (shown_behind c held))) (option_and_then (modified h held None) (cut (length early) (shown_before c held ++ shown_behind c held)))) p
    ∙ ap (λ o. option_and_then (end (length (take 1 late)) (other_way early late)) (option_and_then (modified h held None) o)) (cut_front early late)
    ∙ ap (λ o. option_map (λ list1. let x : Lists = record { list0 = early; list1 = list1 } in x) o) (way early late some)
