-- The best entry of a list, entry by entry.
use Rattle.std.proofs.Common.{◌≡◌, ◌≢◌, ◌≤◌, ◌<◌, ◌+◌, ◌-◌, ◌*◌, ℕ, Bool, true, false, cond, List, [], ◌∷◌, ◌++◌, length, map, take, get_or, set, inl, inr, refl, sym, ap, subst, ◌∙◌, arith}
use Rattle.std.specs.Prelude.{nat_lt}
use Rattle.std.specs.List.{range_with_len, sum_by}
use Rattle.std.proofs.lemmas.Bool.{cases_lt}
use Rattle.std.proofs.lemmas.List.{get_or-set_same, get_or-set_other}
use Rattle.std.proofs.lemmas.List.FromFn.{map-range_with_len_more}
use Rattle.std.proofs.lemmas.List.Sums.{sum_by_more}
use Rattle.enc_tables.specs.declared.records.Vector.{Vector}
use Rattle.enc_tables.specs.Choice.{lesser, first_least}
use Rattle.spec_film.specs.Films.{Planes}
use Rattle.spec_search.specs.declared.blocks.Block.{Block}
use Rattle.subpel_filter.specs.Predicted.{IsShort}
use Rattle.spec_inter_plans.specs.Found.{Refined}
use Rattle.spec_inter_plans.specs.InterPlans.{Search, Listed, no_planes, found, listed_cost, listed, best_of_list}
use Rattle.mode_choice.specs.declared.entries.Entry.{Entry}
use Rattle.mode_choice.specs.Entries.{as_listed, blank_entry, entry_at, entry_cost, IsEntry}

-- ---- entries that are put in place one after another

pub one_more : (P : ℕ → Entry → Type 0) (es : List Entry) (k : ℕ) (e : Entry) → k < length es → ((j : ℕ) → j < k → P j (entry_at es j)) → P k e → (j : ℕ) → j < k + 1 → P j (entry_at (set es k e) j)
one_more P es k e a h now j p = elim (cases_lt j k) [
  | inl lt ↦ (let n : j ≢ k = λ e. omega arith in rw (get_or-set_other es k j e blank_entry n) (h j lt))
  | inr ge ↦ (let same : k ≡ j = omega arith in
      subst (λ (t : ℕ). P t (entry_at (set es k e) t)) same (rw (get_or-set_same es k e blank_entry a) now))
]

-- those behind stay
pub one_kept : (es : List Entry) (k : ℕ) (e : Entry) (j : ℕ) → k < j → entry_at (set es k e) j ≡ entry_at es j
one_kept es k e j lt = let n : j ≢ k = λ e. omega arith in get_or-set_other es k j e blank_entry n

-- ---- the first of least cost

-- of the first n entries, of which there is one at least
abbrev pub best_to : Search → Block → List Planes → ℕ → Listed
best_to s block list n = first_least listed_cost (listed s block list 0) (map (listed s block list) (range_with_len 1 (n - 1)))

least_append : (b : Listed) (xs ys : List Listed) → first_least listed_cost b (xs ++ ys) ≡ first_least listed_cost (first_least listed_cost b xs) ys
least_append b [] ys = refl
least_append b (x ∷ xs) ys = least_append (lesser listed_cost b x) xs ys

best_next : (s : Search) (block : Block) (list : List Planes) (n : ℕ) → 0 < n → best_to s block list (n + 1) ≡ lesser listed_cost (best_to s block list n) (listed s block list n)
best_next s block list n some =
    let same : n + 1 - 1 ≡ (n - 1) + 1 = omega arith in
    ap (λ (m : ℕ). first_least listed_cost (listed s block list 0) (map (listed s block list) (range_with_len 1 m))) same
    ∙ ap (λ (l : List Listed). first_least listed_cost (listed s block list 0) l) (map-range_with_len_more (listed s block list) 1 (n - 1) n (omega arith))
    ∙ least_append (listed s block list 0) (map (listed s block list) (range_with_len 1 (n - 1))) (listed s block list n ∷ [])

pub best_last : (s : Search) (block : Block) (list : List Planes) (n : ℕ) → n ≡ length list → best_to s block list n ≡ best_of_list s block list
unfolding best_of_list
best_last s block list n e = ap (λ (m : ℕ). first_least listed_cost (listed s block list 0) (map (listed s block list) (range_with_len 1 (m - 1)))) e

as_lesser : (a b : Entry) → as_listed (lesser entry_cost a b) ≡ lesser listed_cost (as_listed a) (as_listed b)
unfolding lesser
as_lesser a b = by (nat_lt b.cost a.cost)
  where
    by : (t : Bool) → as_listed (cond t b a) ≡ cond t (as_listed b) (as_listed a)
    by true = refl
    by false = refl

pub best_more : (s : Search) (block : Block) (list : List Planes) (n : ℕ) (best next new : Entry) → 0 < n → as_listed best ≡ best_to s block list n → as_listed next ≡ listed s block list n
    → new ≡ lesser entry_cost best next → as_listed new ≡ best_to s block list (n + 1)
best_more s block list n best next new some e f g =
    ap as_listed g
    ∙ as_lesser best next
    ∙ ap (λ (l : Listed). lesser listed_cost l (as_listed next)) e
    ∙ ap (lesser listed_cost (best_to s block list n)) f
    ∙ sym (best_next s block list n some)

unfoldable made : ℕ → Vector → ℕ → Listed
made number vector cost = record { number = number; vector = vector; cost = cost }

unfoldable listed_by : ℕ → Refined → Listed
listed_by r f = record { number = r; vector = f.vector; cost = f.size + 4 * r }

-- what is found in the picture of an entry
pub listed_is : (s : Search) (block : Block) (list : List Planes) (r : ℕ) (p : Planes) (e : Entry) (v : Vector) (size : ℕ) → get_or list r no_planes ≡ p → found s block p ≡ record { vector = v; size = size }
    → e.number ≡ r → e.vector ≡ v → e.cost ≡ size + 4 * r → as_listed e ≡ listed s block list r
unfolding made listed_by
listed_is s block list r p e v size at_r is a b c =
    ap (λ (n : ℕ). made n e.vector e.cost) a
    ∙ ap (λ (w : Vector). made r w e.cost) b
    ∙ ap (λ (n : ℕ). made r v n) c
    ∙ ap (listed_by r) (sym (ap (λ (q : Planes). found s block q) at_r ∙ is))

-- ---- entries of the list

kept_or : (F : Entry → Type 0) (a b : Entry) → F a → F b → F (lesser entry_cost a b)
unfolding lesser
kept_or F a b f g = by (nat_lt b.cost a.cost)
  where
    by : (t : Bool) → F (cond t b a)
    by true = g
    by false = f

pub entry_more : (n : ℕ) (best next new : Entry) → IsEntry n best → IsEntry (n + 1) next → new ≡ lesser entry_cost best next → IsEntry (n + 1) new
entry_more n best next new h g e =
    let old = h.inside in
    subst (λ (x : Entry). IsEntry (n + 1) x) (sym e) (kept_or (IsEntry (n + 1)) best next (record { inside = omega arith; short = h.short; small = h.small }) g)

pub is_entry : (n : ℕ) (e : Entry) (v : Vector) (size : ℕ) → e.number ≡ n → e.vector ≡ v → e.cost ≡ size + 4 * n → IsShort v → size ≤ 65280 → n ≤ 3 → IsEntry (n + 1) e
is_entry n e v size a b c short small few =
    record { inside = omega arith; short = subst (λ (w : Vector). IsShort w) (sym b) short; small = omega arith }

-- ---- sums over entries

sum_more : (f : Planes → ℕ) (xs : List Planes) (n : ℕ) (x : Planes) → n < length xs → get_or xs n no_planes ≡ x → sum_by f (take (n + 1) xs) ≡ sum_by f (take n xs) + f x
sum_more f xs n x lt e = sum_by_more f xs n no_planes lt ∙ ap (λ (p : Planes). sum_by f (take n xs) + f p) e

pub sum_first : (f : Planes → ℕ) (xs : List Planes) (x : Planes) (n : ℕ) → 0 < length xs → get_or xs 0 no_planes ≡ x → n ≡ f x → n ≡ sum_by f (take 1 xs)
sum_first f xs x n some at_0 e =
    let a = sum_more f xs 0 x some at_0 in
    let none : sum_by f [] ≡ 0 = refl in
    omega (arith, a, none, e)

pub sum_next : (f : Planes → ℕ) (xs : List Planes) (k : ℕ) (x : Planes) (m n : ℕ) → k < length xs → get_or xs k no_planes ≡ x → m ≡ sum_by f (take k xs) → n ≡ f x → m + n ≡ sum_by f (take (k + 1) xs)
sum_next f xs k x m n lt at_k e g = let a = sum_more f xs k x lt at_k in omega (arith, a, e, g)

pub take_all : (xs : List Planes) (n : ℕ) → n ≡ length xs → take n xs ≡ xs
take_all xs n e = ap (λ (m : ℕ). take m xs) e ∙ whole xs
  where
    whole : (xs : List Planes) → take (length xs) xs ≡ xs
    whole [] = refl
    whole (x ∷ xs) = ap (λ (l : List Planes). x ∷ l) (whole xs)
