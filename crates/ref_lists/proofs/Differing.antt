-- How far two planes differ, row by row, and which of some references is the first that differs least.
use Rattle.std.proofs.Common.{ℕ, suc, ◌+◌, ◌-◌, ◌*◌, ◌≡◌, ◌≤◌, ◌<◌, List, [], ◌∷◌, ◌++◌, length, drop, get_or, map, Bool, true, false, cond, refl, ap, ap₂, sym, subst, ◌∙◌, arith}
use Rattle.std.specs.Prelude.{sum, nat_lt}
use Rattle.std.specs.List.{fold, AllByRecursion}
use Rattle.std.specs.Int.{abs_diff}
use Rattle.std.specs.Simd.Lanes.{zip2}
use Rattle.std.proofs.lemmas.Bool.Decides.{nat_tests}
use Rattle.std.proofs.lemmas.Grind.{common_steps}
use Rattle.std.proofs.lemmas.List.{drop_all}
use Rattle.picture_planes.specs.declared.plane.Plane.{Plane}
use Rattle.picture_planes.specs.Samples.{row_of, rows_to, samples_of}
use Rattle.picture_planes.proofs.SampleLaws.{rows_length}
use Rattle.spec_basics.specs.Sums.{sad}
use Rattle.spec_lists.specs.References.{Reference as Shown}
use Rattle.spec_lists.specs.Reordering.{difference, least_from, first_least_place}
use Rattle.ref_lists.specs.Named.{FirstIsLeast}

fold_from : (a : ℕ) (xs : List ℕ) → fold (λ s x. s + x) a xs ≡ a + sum xs
fold_from a [] = omega arith
fold_from a (x ∷ xs) = let f = fold_from (a + x) xs in let g = fold_from (0 + x) xs in omega (arith, f, g)

sad_is : (xs ys : List ℕ) → sad xs ys ≡ difference xs ys
unfolding difference
sad_is [] ys = refl
sad_is (x ∷ xs) [] = refl
sad_is (x ∷ xs) (y ∷ ys) = let f = fold_from (0 + ((x - y) + (y - x))) (zip2 abs_diff xs ys) in let ih = sad_is xs ys in f ∙ omega (arith, ih)

difference-append : (xs ys us vs : List ℕ) → length xs ≡ length ys → difference (xs ++ us) (ys ++ vs) ≡ difference xs ys + difference us vs
unfolding difference
difference-append [] [] us vs e = omega arith
difference-append [] (y ∷ ys) us vs e = absurd (omega (arith, e))
difference-append (x ∷ xs) [] us vs e = absurd (omega (arith, e))
difference-append (x ∷ xs) (y ∷ ys) us vs e = let ih = difference-append xs ys us vs (omega (arith, e)) in omega (arith, ih)

-- one row more
pub next_row : (a b : Plane) (y total : ℕ) → a.width ≡ b.width → a.height ≡ b.height → y < a.height → total ≡ difference (rows_to a y) (rows_to b y) → total + sad (row_of a y) (row_of b y) ≡ difference (rows_to a (y + 1)) (rows_to b (y + 1))
unfolding rows_to
next_row a b y total w h less e =
    let turn : y + 1 ≡ suc y = omega arith in
    let long : length (rows_to a y) ≡ length (rows_to b y) = rows_length a y (omega (arith, less)) ∙ ap (λ n. y * n) w ∙ sym (rows_length b y (omega (arith, less, h))) in
    ap₂ (λ m n. m + n) e (sad_is (row_of a y) (row_of b y))
    ∙ sym (difference-append (rows_to a y) (rows_to b y) (row_of a y) (row_of b y) long)
    ∙ ap (λ n. difference (rows_to a n) (rows_to b n)) (sym turn)

pub no_row : (a b : Plane) → 0 ≡ difference (rows_to a 0) (rows_to b 0)
unfolding rows_to difference
no_row a b = refl

pub all_rows : (a b : Plane) (y total : ℕ) → a.height ≡ b.height → y ≡ a.height → total ≡ difference (rows_to a y) (rows_to b y) → total ≡ difference (samples_of a) (samples_of b)
unfolding samples_of
all_rows a b y total h end e = e ∙ ap₂ (λ m n. difference (rows_to a m) (rows_to b n)) end (end ∙ h)

-- ---- the first that differs least

pub least_first : (xs : List ℕ) → least_from (get_or xs 0 0) 0 1 (drop 1 xs) ≡ first_least_place xs
unfolding least_from
least_first [] = refl
least_first (x ∷ xs) = refl

step : (least best place z : ℕ) (zs : List ℕ) (b : Bool) → nat_lt z least ≡ b → least_from least best place (z ∷ zs) ≡ cond b (least_from z place (place + 1) zs) (least_from least best (place + 1) zs)
unfolding least_from
step least best place z zs b t = ap (λ b. cond b (least_from z place (place + 1) zs) (least_from least best (place + 1) zs)) t

pub least_next : (xs : List ℕ) (best k next t : ℕ) (b : Bool) → k < length xs → nat_lt (get_or xs k 0) (get_or xs best 0) ≡ b → next ≡ cond b k best → least_from (get_or xs best 0) best k (drop k xs) ≡ t → least_from (get_or xs next 0) next (k + 1) (drop (k + 1) xs) ≡ t
least_next xs best k next t b less test e h =
    ap (λ n. least_from (get_or xs n 0) n (k + 1) (drop (k + 1) xs)) e ∙ by b test ∙ sym (ap (least_from (get_or xs best 0) best k) (one xs k less)) ∙ h
  where
    one : (xs : List ℕ) (k : ℕ) → k < length xs → drop k xs ≡ get_or xs k 0 ∷ drop (k + 1) xs
    one xs k less = grind (arith, common_steps)

    by : (b : Bool) → nat_lt (get_or xs k 0) (get_or xs best 0) ≡ b → least_from (get_or xs (cond b k best) 0) (cond b k best) (k + 1) (drop (k + 1) xs) ≡ least_from (get_or xs best 0) best k (get_or xs k 0 ∷ drop (k + 1) xs)
    by true t = sym (step (get_or xs best 0) best k (get_or xs k 0) (drop (k + 1) xs) true t)
    by false t = sym (step (get_or xs best 0) best k (get_or xs k 0) (drop (k + 1) xs) false t)

pub least_last : (xs : List ℕ) (best k t : ℕ) → length xs ≤ k → least_from (get_or xs best 0) best k (drop k xs) ≡ t → best ≡ t
unfolding least_from
least_last xs best k t h e = sym (ap (least_from (get_or xs best 0) best k) (drop_all k xs h)) ∙ e

-- ---- where it is the first one

abbrev pub apart : List ℕ → Shown → ℕ
apart source r = difference source r.planes.luma

less_is : (a b : ℕ) → (nat_lt a b ≡ false) → b ≤ a
less_is a b t = grind (arith, nat_tests)

not_less : (a b : ℕ) → b ≤ a → nat_lt a b ≡ false
not_less a b h = grind (arith, nat_tests)

later : (least best place low : ℕ) (zs : List ℕ) → low ≤ best → low ≤ place → low ≤ least_from least best place zs
unfolding least_from
later least best place low [] h k = h
later least best place low (z ∷ zs) h k = by (nat_lt z least) refl (later z place (place + 1) low zs k (omega (arith, k))) (later least best (place + 1) low zs h (omega (arith, k)))
  where
    by : (b : Bool) → nat_lt z least ≡ b → low ≤ least_from z place (place + 1) zs → low ≤ least_from least best (place + 1) zs → low ≤ least_from least best place (z ∷ zs)
    by true t here on = subst (λ (n : ℕ). low ≤ n) (sym (step least best place z zs true t)) here
    by false t here on = subst (λ (n : ℕ). low ≤ n) (sym (step least best place z zs false t)) on

stays_first : (source : List ℕ) (least best place : ℕ) (rs : List Shown) → AllByRecursion (λ q. least ≤ apart source q) rs → least_from least best place (map (apart source) rs) ≡ best
unfolding least_from
stays_first source least best place [] h = refl
stays_first source least best place (r ∷ rs) h =
    step least best place (apart source r) (map (apart source) rs) false (not_less (apart source r) least h.0) ∙ stays_first source least best (place + 1) rs h.1

is_first : (source : List ℕ) (least best place : ℕ) (rs : List Shown) → best < place → least_from least best place (map (apart source) rs) ≡ best → AllByRecursion (λ q. least ≤ apart source q) rs
is_first source least best place [] less e = tt
is_first source least best place (r ∷ rs) less e = by (nat_lt (apart source r) least) refl (is_first source least best (place + 1) rs (omega (arith, less)))
  where
    by : (b : Bool) → nat_lt (apart source r) least ≡ b → (least_from least best (place + 1) (map (apart source) rs) ≡ best → AllByRecursion (λ q. least ≤ apart source q) rs) → AllByRecursion (λ q. least ≤ apart source q) (r ∷ rs)
    by true t on =
        let same = sym (step least best place (apart source r) (map (apart source) rs) true t) ∙ e in
        let low = later (apart source r) place (place + 1) place (map (apart source) rs) (omega arith) (omega arith) in absurd (omega (arith, same, low, less))
    by false t on = (less_is (apart source r) least t, on (sym (step least best place (apart source r) (map (apart source) rs) false t) ∙ e))

pub first_then : (source : List ℕ) (list : List Shown) → first_least_place (map (apart source) list) ≡ 0 → FirstIsLeast source list
first_then source [] e = tt
first_then source (r ∷ rs) e = is_first source (apart source r) 0 1 rs (omega arith) e

pub then_first : (source : List ℕ) (list : List Shown) → FirstIsLeast source list → first_least_place (map (apart source) list) ≡ 0
then_first source [] h = refl
then_first source (r ∷ rs) h = stays_first source (apart source r) 0 1 rs h
