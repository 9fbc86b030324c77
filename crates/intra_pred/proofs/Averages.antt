use Rattle.std.proofs.Common.{◌≡◌, ℕ, ◌+◌, ◌/◌, ◌<◌, List, [], ◌∷◌, ◌++◌, length, sum, refl, arith, length-append}
use Rattle.std.proofs.lemmas.Grind.{common_steps}
use Rattle.spec_intra.specs.Means.{mean}

mean_of_some : (xs : List ℕ) → 0 < length xs → mean xs ≡ (sum xs + length xs / 2) / length xs
unfolding mean
mean_of_some [] h = omega arith
mean_of_some (x ∷ xs) h = refl

mean_of_none : (xs : List ℕ) → length xs ≡ 0 → mean xs ≡ 128
unfolding mean
mean_of_none [] h = refl
mean_of_none (x ∷ xs) h = absurd (omega arith)

pub mean_some : (xs ys : List ℕ) (n v : ℕ) → 0 < n → n ≡ length xs + length ys → v ≡ (sum xs + sum ys + n / 2) / n → v ≡ mean (xs ++ ys)
mean_some xs ys n v h e is =
    let sums : sum (xs ++ ys) ≡ sum xs + sum ys = grind (arith, common_steps) in
    let some : 0 < length (xs ++ ys) = omega (arith, length-append xs ys) in
    rw (is, mean_of_some (xs ++ ys) some, sums, length-append xs ys, e) refl

pub mean_none : (xs ys : List ℕ) → length xs + length ys ≡ 0 → 128 ≡ mean (xs ++ ys)
mean_none xs ys e =
    let none : length (xs ++ ys) ≡ 0 = omega (arith, length-append xs ys) in
    rw (mean_of_none (xs ++ ys) none) refl
