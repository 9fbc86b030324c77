-- Pictures placed by their places in display order, and by their picture order counts.
use Rattle.std.proofs.Common.{◌≡◌, ℕ, ◌-◌, ◌*◌, ◌<◌, ◌≤◌, true, false, cond, List, [], ◌∷◌, ◌++◌, map, refl, ap, arith, le-ltb}
use Rattle.std.specs.Prelude.{nat_lt, nat_eq, not, ◌&&◌, ◌==◌, Bool}
use Rattle.std.specs.List.{AllByRecursion, list_all}
use Rattle.std.proofs.lemmas.Bool.Decides.{nat_tests}
use Rattle.spec_film.specs.Films.{Planes}
use Rattle.spec_decoder.specs.Output.{placed, pictures_in}

-- by its picture order count since the picture at place base
abbrev pub unshift : ℕ → ℕ × Planes → ℕ × Planes
unshift base x = (2 * (x.0 - base), x.1)

pub shift_lt : (base a b : ℕ) → base ≤ a → base ≤ b → nat_lt (2 * (a - base)) (2 * (b - base)) ≡ nat_lt a b
shift_lt base a b h k = grind (arith, nat_tests)

abbrev pub AtMost : ℕ → ℕ × Planes → Type 0
AtMost n y = y.0 ≤ n

abbrev pub AtLeast : ℕ → ℕ × Planes → Type 0
AtLeast n y = n ≤ y.0

abbrev pub Below : ℕ → ℕ × Planes → Type 0
Below n y = y.0 < n

-- past all early ones
pub placed-append : (x : ℕ × Planes) (early late : List (ℕ × Planes)) → AllByRecursion (AtMost x.0) early → placed x (early ++ late) ≡ early ++ placed x late
unfolding placed
placed-append x [] late h = refl
placed-append x (y ∷ ys) late h = rw (le-ltb x.0 y.0 h.0) (ap (λ (zs : List (ℕ × Planes)). y ∷ zs) (placed-append x ys late h.1))

pub placed_last : (x : ℕ × Planes) (early : List (ℕ × Planes)) → AllByRecursion (AtMost x.0) early → placed x early ≡ early ++ x ∷ []
unfolding placed
placed_last x [] h = refl
placed_last x (y ∷ ys) h = rw (le-ltb x.0 y.0 h.0) (ap (λ (zs : List (ℕ × Planes)). y ∷ zs) (placed_last x ys h.1))

pub placed_shift : (base : ℕ) (x : ℕ × Planes) (late : List (ℕ × Planes)) → base ≤ x.0 → AllByRecursion (AtLeast base) late → placed (unshift base x) (map (unshift base) late) ≡ map (unshift base) (placed x late)
unfolding placed
placed_shift base x [] h k = refl
placed_shift base x (y ∷ ys) h k =
    rw (shift_lt base x.0 y.0 h k.0)
    (elim (nat_lt x.0 y.0) as (λ t. cond t (unshift base x ∷ unshift base y ∷ map (unshift base) ys) (unshift base y ∷ placed (unshift base x) (map (unshift base) ys)) ≡ map (unshift base) (cond t (x ∷ y ∷ ys) (y ∷ placed x ys))) [
      | true ↦ refl
      | false ↦ ap (λ (zs : List (ℕ × Planes)). unshift base y ∷ zs) (placed_shift base x ys h k.1)
    ])

pub all_placed : (P : ℕ × Planes → Type 0) (x : ℕ × Planes) (xs : List (ℕ × Planes)) → P x → AllByRecursion P xs → AllByRecursion P (placed x xs)
unfolding placed
all_placed P x [] h k = (h, tt)
all_placed P x (y ∷ ys) h k =
    elim (nat_lt x.0 y.0) as (λ t. AllByRecursion P (cond t (x ∷ y ∷ ys) (y ∷ placed x ys))) [ true ↦ (h, k) | false ↦ (k.0, all_placed P x ys h k.1) ]

pub all_weaker : (P Q : ℕ × Planes → Type 0) (xs : List (ℕ × Planes)) → ((x : ℕ × Planes) → P x → Q x) → AllByRecursion P xs → AllByRecursion Q xs
all_weaker P Q [] f h = tt
all_weaker P Q (x ∷ xs) f h = (f x h.0, all_weaker P Q xs f h.1)

pub pictures_shift : (base : ℕ) (late : List (ℕ × Planes)) → pictures_in (map (unshift base) late) ≡ pictures_in late
pictures_shift base [] = refl
pictures_shift base (x ∷ xs) = ap (λ (zs : List Planes). x.1 ∷ zs) (pictures_shift base xs)

pub pictures-append : (xs ys : List (ℕ × Planes)) → pictures_in (xs ++ ys) ≡ pictures_in xs ++ pictures_in ys
pictures-append [] ys = refl
pictures-append (x ∷ xs) ys = ap (λ (zs : List Planes). x.1 ∷ zs) (pictures-append xs ys)

-- ---- places that aren't there yet

abbrev pub IsNew : ℕ → List (ℕ × Planes) → Type 0
IsNew n xs = AllByRecursion (λ x. nat_eq x.0 n ≡ false) xs

abbrev pub AreNew : List (ℕ × Planes) → List ℕ → Type 0
AreNew xs ns = AllByRecursion (λ n. IsNew n xs) ns

pub still_new : (x : ℕ × Planes) (xs : List (ℕ × Planes)) (ns : List ℕ) → AllByRecursion (λ n. nat_eq x.0 n ≡ false) ns → AreNew xs ns → AreNew (placed x xs) ns
still_new x xs [] h k = tt
still_new x xs (n ∷ ns) h k = (all_placed (λ y. nat_eq y.0 n ≡ false) x xs h.0 k.0, still_new x xs ns h.1 k.1)

pub new_behind : (n : ℕ) (early late : List (ℕ × Planes)) → IsNew n (early ++ late) → IsNew n late
new_behind n [] late h = h
new_behind n (x ∷ xs) late h = new_behind n xs late h.1

-- none of the picture order counts is that of a new place
pub none_equal : (base n : ℕ) (late : List (ℕ × Planes)) → base ≤ n → AllByRecursion (AtLeast base) late → IsNew n late → list_all (λ p. not (p.0 == 2 * (n - base))) (map (unshift base) late) ≡ true
none_equal base n [] from high h = refl
none_equal base n (x ∷ xs) from high h = both _ _ (apart base x.0 n high.0 from h.0) (none_equal base n xs from high.1 h.1)
  where
    both : (p q : Bool) → p ≡ true → q ≡ true → (p && q) ≡ true
    both p q a b = rw (a, b) refl

    apart : (base a b : ℕ) → base ≤ a → base ≤ b → nat_eq a b ≡ false → not (2 * (a - base) == 2 * (b - base)) ≡ true
    apart base a b h k e = grind (arith, nat_tests)
