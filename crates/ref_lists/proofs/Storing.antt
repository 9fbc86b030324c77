-- What a store holds behind a new reference.
use Rattle.std.proofs.Common.{ℤ, ◌<ℤ◌, ℕ, zero, suc, ◌+◌, ◌-◌, ◌≡◌, ◌≤◌, min, List, [], ◌∷◌, ◌++◌, length, take, refl, ap, ap₂, sym, subst, ◌∙◌, arith}
use Rattle.std.specs.List.{AllByRecursion}
use Rattle.std.proofs.lemmas.Grind.{common_steps}
use Rattle.std.proofs.lemmas.Int.{ints}
use Rattle.spec_lists.specs.References.{Reference as Shown, slid}
use Rattle.ref_lists.specs.declared.held.Reference.{Reference}
use Rattle.ref_lists.specs.Held.{seen, all_seen, Counts}
use Rattle.ref_lists.specs.Entries.{AreShownInTurn, AreInOrder}
use Rattle.ref_lists.specs.Stored.{order_counts, IsNumberedNext, IsShownLast}

pub all_taken : {X : Type 0} (F : X → Type 0) (n : ℕ) (xs : List X) → AllByRecursion F xs → AllByRecursion F (take n xs)
all_taken F zero xs h = tt
all_taken F (suc n) [] h = tt
all_taken F (suc n) (x ∷ xs) h = (h.0, all_taken F n xs h.1)

take_both : {X : Type 0} (c m : ℕ) (xs : List X) → take (min c m) (take m xs) ≡ take m (take c xs)
take_both c m xs = grind (arith, common_steps)

-- the first places behind a turn
pub turned : {X : Type 0} (n c : ℕ) (x : X) (xs : List X) → 1 ≤ n → c ≤ n → take (min (c + 1) n) (x ∷ take (n - 1) xs) ≡ take n (x ∷ take c xs)
turned zero c x xs some few = absurd (omega (arith, some))
turned (suc m) c x xs some few =
    let e : min (c + 1) (suc m) ≡ suc (min c m) = omega arith in
    let f : suc m - 1 ≡ m = omega arith in
    ap₂ (λ j k. take j (x ∷ take k xs)) e f ∙ ap (λ (ys : List _). x ∷ ys) (take_both c m xs)

map_taken : (n : ℕ) (held : List Reference) → all_seen (take n held) ≡ take n (all_seen held)
map_taken zero held = refl
map_taken (suc n) [] = refl
map_taken (suc n) (r ∷ rs) = ap (λ (zs : List Shown). seen r ∷ zs) (map_taken n rs)

-- the references that are held behind a turn: places are those of the store before, `items` those of the store now
pub front_is : (c count : ℕ) (new : Reference) (places items : List Reference) → items ≡ new ∷ take (length places - 1) places → count ≡ min (c + 1) (length places) → 1 ≤ length places → c ≤ length places → take count items ≡ take (length places) (new ∷ take c places)
front_is c count new places items e k some few = ap₂ (λ (m : ℕ) (xs : List Reference). take m xs) k e ∙ turned (length places) c new places some few

pub room_is : (c count : ℕ) (new : Reference) (places items : List Reference) → items ≡ new ∷ take (length places - 1) places → count ≡ min (c + 1) (length places) → 1 ≤ length places → (length items ≡ length places) × (count ≤ length items)
room_is c count new places items e k some =
    let long : length items ≡ length places = ap (λ (xs : List Reference). length xs) e ∙ whole new places some in (long, omega (arith, long, k))
  where
    whole : (x : Reference) (xs : List Reference) → 1 ≤ length xs → length (x ∷ take (length xs - 1) xs) ≡ length xs
    whole x xs some = grind (arith, common_steps)

pub slid_is : (n c : ℕ) (new : Reference) (old : Shown) (places front : List Reference) → front ≡ take n (new ∷ take c places) → seen new ≡ old → all_seen front ≡ slid n old (all_seen (take c places))
unfolding slid
slid_is n c new old places front e same =
    ap all_seen e ∙ map_taken n (new ∷ take c places) ∙ ap (λ (x : Shown). take n (x ∷ all_seen (take c places))) same

-- ---- the order goes on

counts_taken : (n next : ℕ) (held : List Reference) → Counts next (all_seen held) → Counts next (all_seen (take n held))
counts_taken zero next held h = tt
counts_taken (suc n) next [] h = tt
counts_taken (suc n) next (r ∷ rs) h = (h.0, counts_taken n r.frame_num rs h.1)

shown_taken : (n : ℕ) (held : List Reference) → AreShownInTurn held → AreShownInTurn (take n held)
shown_taken zero held h = tt
shown_taken (suc n) [] h = tt
shown_taken (suc n) (r ∷ rs) h = (all_taken (λ q. q.poc <ℤ r.poc) n rs h.0, shown_taken n rs h.1)

below : (low high : ℤ) (rs : List Reference) → low <ℤ high → AllByRecursion (λ r. r.poc <ℤ low) rs → AllByRecursion (λ r. r.poc <ℤ high) rs
below low high [] h k = tt
below low high (r ∷ rs) h k = (omega (arith, ints, h, k.0), below low high rs h k.1)

put_first : (new : Reference) (held : List Reference) → AreInOrder held → IsNumberedNext new.frame_num (all_seen held) → IsShownLast new.poc (order_counts held) → AreInOrder (new ∷ held)
put_first new [] o f g = ((refl, tt), (tt, tt))
put_first new (q ∷ qs) o f g = ((refl, (sym f, o.0.1)), ((g, below q.poc new.poc qs g o.1.0), o.1))

order_taken : (n : ℕ) (held : List Reference) → AreInOrder held → AreInOrder (take n held)
order_taken zero held o = (tt, tt)
order_taken (suc n) [] o = (tt, tt)
order_taken (suc n) (r ∷ rs) o = (counts_taken (suc n) (r.frame_num + 1) (r ∷ rs) o.0, shown_taken (suc n) (r ∷ rs) o.1)

pub order_is : (n c frame_num : ℕ) (poc : ℤ) (new : Reference) (places front : List Reference) → front ≡ take n (new ∷ take c places) → AreInOrder (take c places) → new.frame_num ≡ frame_num → IsNumberedNext frame_num (all_seen (take c places)) → new.poc ≡ poc → IsShownLast poc (order_counts (take c places)) → AreInOrder front
order_is n c frame_num poc new places front e o a f b g =
    let f : IsNumberedNext new.frame_num (all_seen (take c places)) = subst (λ (m : ℕ). IsNumberedNext m (all_seen (take c places))) (sym a) f in
    let g : IsShownLast new.poc (order_counts (take c places)) = subst (λ (z : ℤ). IsShownLast z (order_counts (take c places))) (sym b) g in
    subst AreInOrder (sym e) (order_taken n (new ∷ take c places) (put_first new (take c places) o f g))

pub all_is : (F : Reference → Type 0) (n c : ℕ) (new : Reference) (places front : List Reference) → front ≡ take n (new ∷ take c places) → F new → AllByRecursion F (take c places) → AllByRecursion F front
all_is F n c new places front e f h = subst (AllByRecursion F) (sym e) (all_taken F n (new ∷ take c places) (f, h))

counts_mapped : (n : ℕ) (held : List Reference) → order_counts (take n held) ≡ take n (order_counts held)
counts_mapped zero held = refl
counts_mapped (suc n) [] = refl
counts_mapped (suc n) (r ∷ rs) = ap (λ (zs : List ℤ). r.poc ∷ zs) (counts_mapped n rs)

pub counts_are : (n c : ℕ) (new : Reference) (places front : List Reference) (poc : ℤ) → front ≡ take n (new ∷ take c places) → new.poc ≡ poc → order_counts front ≡ take n (poc ∷ order_counts (take c places))
counts_are n c new places front poc e p = ap order_counts e ∙ counts_mapped n (new ∷ take c places) ∙ ap (λ (z : ℤ). take n (z ∷ order_counts (take c places))) p

-- one more place
pub all_more : (F : Reference → Type 0) (xs : List Reference) (x : Reference) → AllByRecursion F xs → F x → AllByRecursion F (xs ++ x ∷ [])
all_more F [] x h f = (f, tt)
all_more F (y ∷ ys) x h f = (h.0, all_more F ys x h.1 f)
