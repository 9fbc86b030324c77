-- Lists of held references, which stand with the newest first.
use Rattle.std.proofs.Common.{ℤ, pos, negsuc, ◌-ℤ◌, ◌≤ℤ◌, ◌<ℤ◌, int_lt, ℕ, zero, suc, ◌+◌, ◌-◌, ◌*◌, ◌%◌, ◌≡◌, ◌≤◌, ◌<◌, List, [], ◌∷◌, ◌++◌, length, take, drop, Bool, true, false, cond, Some, None, refl, ap, sym, subst, ◌∙◌, arith}
use Rattle.std.specs.Prelude.{nat_lt}
use Rattle.std.specs.List.{AllByRecursion, filter, slice_get}
use Rattle.std.proofs.lemmas.Bool.Decides.{nat_tests}
use Rattle.std.proofs.lemmas.Int.{ints}
use Rattle.std.proofs.Math.Nat.{add-mul-mod_self_right, mod-eq_of_lt}
use Rattle.spec_lists.specs.References.{Reference as Shown}
use Rattle.spec_lists.specs.Orders.{Rising, Falling}
use Rattle.spec_lists.specs.Lists.{nearer_first, nearest_first, number_distance, by_number, shown_before, shown_behind}
use Rattle.spec_lists.proofs.Sorted.{stays}
use Rattle.ref_lists.specs.declared.held.Reference.{Reference}
use Rattle.ref_lists.specs.Held.{Counts, natural, all_seen, all_seen_from}
use Rattle.ref_lists.specs.Entries.{next_number, AreShownInTurn, AreInOrder}

-- the order in a decoder's words
abbrev pub Ordered : List Shown → Type 0
Ordered held = Counts (next_number held) held × Falling (λ r. r.poc) held

-- ---- order counts from an origin

natural_is : (z : ℤ) → pos 0 ≤ℤ z → pos (natural z) ≡ z
natural_is (pos n) h = refl
natural_is (negsuc n) h = absurd (omega (arith, ints, h))

pub nearer : (a b origin : ℤ) → origin ≤ℤ a → a <ℤ b → natural (a -ℤ origin) < natural (b -ℤ origin)
nearer a b origin low less =
    let x = natural_is (a -ℤ origin) (omega (arith, ints, low)) in
    let y = natural_is (b -ℤ origin) (omega (arith, ints, low, less)) in
    omega (arith, ints, x, y, less)

pub tested : (a b origin : ℤ) → origin ≤ℤ a → origin ≤ℤ b → int_lt a b ≡ nat_lt (natural (a -ℤ origin)) (natural (b -ℤ origin))
tested a b origin low under =
    let x = natural_is (a -ℤ origin) (omega (arith, ints, low)) in
    let y = natural_is (b -ℤ origin) (omega (arith, ints, under)) in
    by (int_lt a b) refl x y
  where
    yes : (m n : ℕ) → m < n → true ≡ nat_lt m n
    yes m n h = grind (arith, nat_tests)

    no : (m n : ℕ) → n ≤ m → false ≡ nat_lt m n
    no m n h = grind (arith, nat_tests)

    by : (t : Bool) → int_lt a b ≡ t → pos (natural (a -ℤ origin)) ≡ a -ℤ origin → pos (natural (b -ℤ origin)) ≡ b -ℤ origin → t ≡ nat_lt (natural (a -ℤ origin)) (natural (b -ℤ origin))
    by true e x y = yes (natural (a -ℤ origin)) (natural (b -ℤ origin)) (omega (arith, ints))
    by false e x y = no (natural (a -ℤ origin)) (natural (b -ℤ origin)) (omega (arith, ints))

pub counts_from : (origin : ℤ) (next : ℕ) (held : List Reference) → Counts next (all_seen held) → Counts next (all_seen_from origin held)
counts_from origin next [] h = tt
counts_from origin next (r ∷ rs) h = (h.0, counts_from origin r.frame_num rs h.1)

below_from : (origin top : ℤ) (held : List Reference) → AllByRecursion (λ r. origin ≤ℤ r.poc) held → AllByRecursion (λ q. q.poc <ℤ top) held → AllByRecursion (λ q. q.poc < natural (top -ℤ origin)) (all_seen_from origin held)
below_from origin top [] low h = tt
below_from origin top (r ∷ rs) low h = (nearer r.poc top origin low.0 h.0, below_from origin top rs low.1 h.1)

falls_from : (origin : ℤ) (held : List Reference) → AllByRecursion (λ r. origin ≤ℤ r.poc) held → AreShownInTurn held → Falling (λ r. r.poc) (all_seen_from origin held)
falls_from origin [] low h = tt
falls_from origin (r ∷ rs) low h = (below_from origin r.poc rs low.1 h.0, falls_from origin rs low.1 h.1)

pub ordered_from : (origin : ℤ) (held : List Reference) → AllByRecursion (λ r. origin ≤ℤ r.poc) held → AreInOrder held → Ordered (all_seen_from origin held)
ordered_from origin [] low o = (tt, tt)
ordered_from origin (r ∷ rs) low o = (counts_from origin (r.frame_num + 1) (r ∷ rs) o.0, falls_from origin (r ∷ rs) low o.1)

-- ---- all and some

each : (F G : Shown → Type 0) (rs : List Shown) → ((r : Shown) → F r → G r) → AllByRecursion F rs → AllByRecursion G rs
each F G [] f h = tt
each F G (r ∷ rs) f h = (f r h.0, each F G rs f h.1)

both : (F G : Shown → Type 0) (rs : List Shown) → AllByRecursion F rs → AllByRecursion G rs → AllByRecursion (λ r. F r × G r) rs
both F G [] h k = tt
both F G (r ∷ rs) h k = ((h.0, k.0), both F G rs h.1 k.1)

-- those that pass a test stand in their order, and pass it
all_filtered : (F : Shown → Type 0) (p : Shown → Bool) (rs : List Shown) → AllByRecursion F rs → AllByRecursion F (filter p rs)
all_filtered F p [] h = tt
all_filtered F p (r ∷ rs) h = elim (p r) as (λ b. AllByRecursion F (cond b (r ∷ filter p rs) (filter p rs))) [ true ↦ (h.0, all_filtered F p rs h.1) | false ↦ all_filtered F p rs h.1 ]

falls_filtered : (f : Shown → ℕ) (p : Shown → Bool) (rs : List Shown) → Falling f rs → Falling f (filter p rs)
falls_filtered f p [] h = tt
falls_filtered f p (r ∷ rs) h = elim (p r) as (λ b. Falling f (cond b (r ∷ filter p rs) (filter p rs))) [ true ↦ (all_filtered (λ q. f q < f r) p rs h.0, falls_filtered f p rs h.1) | false ↦ falls_filtered f p rs h.1 ]

-- ---- P: by number

pub distance_is : (m n f : ℕ) → f + 1 ≡ n → n ≤ m → m - n + 1 < 65536 → (m + 65536 - f) % 65536 ≡ m - n + 1
distance_is m n f e l few =
    let s : m + 65536 - f ≡ (m - n + 1) + 1 * 65536 = omega (arith, e, l) in
    ap (λ x. x % 65536) s ∙ add-mul-mod_self_right (m - n + 1) 1 65536 ∙ mod-eq_of_lt few

record Rises (m far : ℕ) (rs : List Shown) : Type 0 where
  rising : Rising (number_distance m) rs
  least : AllByRecursion (λ r. far ≤ number_distance m r) rs

numbers_rise : (m n : ℕ) (rs : List Shown) → Counts n rs → n ≤ m → m - n + length rs < 65536 → Rises m (m - n + 1) rs
numbers_rise m n [] h l few = record { rising = tt; least = tt }
numbers_rise m n (r ∷ rs) h l few =
    let d = distance_is m n r.frame_num h.0 l (omega (arith, few)) in
    let on = numbers_rise m r.frame_num rs h.1 (omega (arith, h.0, l)) (omega (arith, h.0, l, few)) in
    let further = each (λ q. m - r.frame_num + 1 ≤ number_distance m q) (λ q. number_distance m r ≤ number_distance m q) rs (λ q k. omega (arith, d, k, h.0, l)) on.least in
    record {
      rising = (further, on.rising);
      least = (omega (arith, d), each (λ q. m - r.frame_num + 1 ≤ number_distance m q) (λ q. m - n + 1 ≤ number_distance m q) rs (λ q k. omega (arith, k, h.0, l)) on.least);
    }

pub numbered : (held : List Shown) → Counts (next_number held) held → length held ≤ 4 → by_number (next_number held) held ≡ held
numbered held o few =
    let n = next_number held in
    let z : n - n ≡ 0 = omega arith in
    stays (number_distance n) held (numbers_rise n n held o (omega arith) (omega (arith, z, few))).rising

-- ---- B: before

below_rise : (poc : ℕ) (rs : List Shown) → Falling (λ r. r.poc) rs → Rising (λ r. poc - r.poc) rs
below_rise poc [] h = tt
below_rise poc (r ∷ rs) h = (each (λ q. q.poc < r.poc) (λ q. poc - r.poc ≤ poc - q.poc) rs (λ q k. omega (arith, k)) h.0, below_rise poc rs h.1)

pub before_is : (poc : ℕ) (held : List Shown) → Ordered held → shown_before poc held ≡ filter (λ r. nat_lt r.poc poc) held
before_is poc held o =
    stays (λ r. poc - r.poc) (filter (λ r. nat_lt r.poc poc) held) (below_rise poc (filter (λ r. nat_lt r.poc poc) held) (falls_filtered (λ r. r.poc) (λ r. nat_lt r.poc poc) held o.1))

-- ---- B: behind

front_stays : (far : Shown → ℕ) (r x : Shown) (zs : List Shown) → take 1 zs ≡ x ∷ [] → far x < far r → take 1 (nearer_first far r zs) ≡ x ∷ []
unfolding nearer_first
front_stays far r x [] e less = let no : [] ≡ x ∷ [] = e in absurd cc
front_stays far r x (q ∷ qs) e less =
    let same : q ≡ x = cc in
    let test : nat_lt (far q) (far r) ≡ true = is (far q) (far r) (subst (λ (y : Shown). far y < far r) (sym same) less) in
    ap (λ b. take 1 (cond b (q ∷ nearer_first far r qs) (r ∷ q ∷ qs))) test ∙ e
  where
    is : (a b : ℕ) → a < b → nat_lt a b ≡ true
    is a b h = grind (arith, nat_tests)

nearest_last : (far : Shown → ℕ) (xs : List Shown) (x : Shown) → AllByRecursion (λ r. far x < far r) xs → take 1 (nearest_first far (xs ++ x ∷ [])) ≡ x ∷ []
unfolding nearest_first nearer_first
nearest_last far [] x h = refl
nearest_last far (r ∷ rs) x h = front_stays far r x (nearest_first far (rs ++ x ∷ [])) (nearest_last far rs x h.1) h.0

falls_to_last : (f : Shown → ℕ) (xs : List Shown) (x : Shown) → Falling f (xs ++ x ∷ []) → AllByRecursion (λ r. f x < f r) xs
falls_to_last f [] x h = tt
falls_to_last f (r ∷ rs) x h = (last_of (λ q. f q < f r) rs x h.0, falls_to_last f rs x h.1)
  where
    last_of : (F : Shown → Type 0) (xs : List Shown) (x : Shown) → AllByRecursion F (xs ++ x ∷ []) → F x
    last_of F [] x h = h.0
    last_of F (r ∷ rs) x h = last_of F rs x h.1

filter-append : (p : Shown → Bool) (xs ys : List Shown) → filter p (xs ++ ys) ≡ filter p xs ++ filter p ys
filter-append p [] ys = refl
filter-append p (x ∷ xs) ys = elim (p x) as (λ b. cond b (x ∷ filter p (xs ++ ys)) (filter p (xs ++ ys)) ≡ cond b (x ∷ filter p xs) (filter p xs) ++ filter p ys) [ true ↦ ap (λ (zs : List Shown). x ∷ zs) (filter-append p xs ys) | false ↦ filter-append p xs ys ]

split_at : (held : List Shown) (k : ℕ) (x : Shown) → slice_get held k ≡ Some x → held ≡ take k held ++ x ∷ drop (k + 1) held
split_at [] k x e = let no : None ≡ Some x = e in absurd cc
split_at (r ∷ rs) zero x e = let same : r ≡ x = cc in ap (λ (y : Shown). y ∷ rs) same
split_at (r ∷ rs) (suc k) x e =
    let turn : suc k + 1 ≡ suc (k + 1) = omega arith in
    ap (λ (zs : List Shown). r ∷ zs) (split_at rs k x e) ∙ ap (λ n. r ∷ (take k rs ++ x ∷ drop n (r ∷ rs))) (sym turn)

-- the last one that is shown behind is the nearest
pub behind_is : (poc : ℕ) (held : List Shown) (k : ℕ) (x : Shown) → Ordered held → slice_get held k ≡ Some x → nat_lt poc x.poc ≡ true → filter (λ r. nat_lt poc r.poc) (drop (k + 1) held) ≡ [] → take 1 (shown_behind poc held) ≡ x ∷ []
behind_is poc held k x o at more none =
    let q : Shown → Bool = λ r. nat_lt poc r.poc in
    let parts : filter q held ≡ filter q (take k held) ++ x ∷ [] =
    ap (filter q) (split_at held k x at) ∙ filter-append q (take k held) (x ∷ drop (k + 1) held)
    ∙ ap (λ b. filter q (take k held) ++ cond b (x ∷ filter q (drop (k + 1) held)) (filter q (drop (k + 1) held))) more ∙ ap (λ (zs : List Shown). filter q (take k held) ++ x ∷ zs) none in
    let falls : Falling (λ r. r.poc) (filter q (take k held) ++ x ∷ []) = subst (λ (zs : List Shown). Falling (λ r. r.poc) zs) parts (falls_filtered (λ r. r.poc) q held o.1) in
    let over : poc < x.poc = grind (arith, nat_tests) in
    let far = each (λ r. x.poc < r.poc) (λ r. x.poc - poc < r.poc - poc) (filter q (take k held)) (λ r h. omega (arith, h, over)) (falls_to_last (λ r. r.poc) (filter q (take k held)) x falls) in
    ap (λ (zs : List Shown). take 1 (nearest_first (λ r. r.poc - poc) zs)) parts ∙ nearest_last (λ r. r.poc - poc) (filter q (take k held)) x far

pub none_behind : (poc : ℕ) (held : List Shown) → filter (λ r. nat_lt poc r.poc) held ≡ [] → take 1 (shown_behind poc held) ≡ []
unfolding nearest_first
none_behind poc held e = ap (λ (zs : List Shown). take 1 (nearest_first (λ r. r.poc - poc) zs)) e
