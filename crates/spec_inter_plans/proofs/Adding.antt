-- The comparisons of a macroblock, by partitions and by pictures.
use Rattle.std.proofs.Common.{◌≡◌, ◌+◌, ℕ, List, [], ◌∷◌, refl, ap, ap₂, ◌∙◌, arith}
use Rattle.std.specs.List.{sum_by}
use Rattle.std.proofs.lemmas.List.Sums.{sum_by-cons}
use Rattle.spec_inter_plans.specs.InterPlans.{Search, partitions, compared, nine_compared, parts_compared}

sum_zero : {X : Type 0} (xs : List X) → sum_by (λ x. 0) xs ≡ 0
sum_zero [] = refl
sum_zero (x ∷ xs) = omega (arith, sum_by-cons (λ y. 0) x xs, sum_zero xs)

sum_plus : {X : Type 0} (f g : X → ℕ) (xs : List X) → sum_by (λ x. f x + g x) xs ≡ sum_by f xs + sum_by g xs
sum_plus f g [] = refl
sum_plus f g (x ∷ xs) = omega (arith, sum_by-cons (λ y. f y + g y) x xs, sum_by-cons f x xs, sum_by-cons g x xs, sum_plus f g xs)

-- rows first, or columns first
sum_swap : {X Y : Type 0} (f : X → Y → ℕ) (xs : List X) (ys : List Y) → sum_by (λ x. sum_by (f x) ys) xs ≡ sum_by (λ y. sum_by (λ x. f x y) xs) ys
sum_swap f xs [] = sum_zero xs
sum_swap f xs (y ∷ ys) =
    ap (λ h. sum_by h xs) (λ i x. sum_by-cons (f x) y ys i)
    ∙ sum_plus (λ x. f x y) (λ x. sum_by (f x) ys) xs
    ∙ omega (arith, sum_swap f xs ys, sum_by-cons (λ z. sum_by (λ x. f x z) xs) y ys)

pub by_pictures : (s : Search) (x y : ℕ) → parts_compared s x y ≡ sum_by (nine_compared s x y) s.sources.list0 + sum_by (nine_compared s x y) s.sources.list1
unfolding parts_compared nine_compared
by_pictures s x y =
    sum_plus (λ block. sum_by (compared s block) s.sources.list0) (λ block. sum_by (compared s block) s.sources.list1) (partitions x y)
    ∙ ap₂ (λ a b. a + b) (sum_swap (compared s) (partitions x y) s.sources.list0) (sum_swap (compared s) (partitions x y) s.sources.list1)
