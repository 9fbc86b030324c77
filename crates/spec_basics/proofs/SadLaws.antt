-- Sums of absolute differences: a part at a time, place by place, and how large they get.
use Rattle.std.proofs.Common.{◌≡◌, ℕ, zero, suc, ◌+◌, ◌*◌, ◌<◌, ◌≤◌, List, [], ◌∷◌, ◌++◌, length, get_or, take, drop, refl, ap₂, ◌∙◌, arith}
use Rattle.std.proofs.lemmas.List.{length-take, take_more, take_all}
use Rattle.std.proofs.Math.Seq.{take-add}
use Rattle.std.proofs.lemmas.List.Sums.{sum_by-cons}
use Rattle.std.specs.Prelude.{slice_index}
use Rattle.std.specs.Int.{abs_diff}
use lib.Lanes.{zip2}
use Rattle.spec_basics.specs.Sums.{sum_below, sad}

pub sad_cons : (x y : ℕ) (xs ys : List ℕ) → sad (x ∷ xs) (y ∷ ys) ≡ abs_diff x y + sad xs ys
sad_cons x y xs ys = sum_by-cons (λ (v : ℕ). v) (abs_diff x y) (zip2 abs_diff xs ys)

pub sad_append : (us vs ps qs : List ℕ) → length us ≡ length vs → sad (us ++ ps) (vs ++ qs) ≡ sad us vs + sad ps qs
sad_append [] [] ps qs p = omega arith
sad_append [] (v ∷ vs) ps qs p = absurd (omega arith)
sad_append (u ∷ us) [] ps qs p = absurd (omega arith)
sad_append (u ∷ us) (v ∷ vs) ps qs p =
    let a = sad_cons u v (us ++ ps) (vs ++ qs) in
    let b = sad_cons u v us vs in
    let h = sad_append us vs ps qs (omega arith) in
    omega arith

pub sad_more : (i n : ℕ) (xs ys : List ℕ) → length xs ≡ length ys → sad (take (i + n) xs) (take (i + n) ys) ≡ sad (take i xs) (take i ys) + sad (take n (drop i xs)) (take n (drop i ys))
sad_more i n xs ys p =
    let e : length (take i xs) ≡ length (take i ys) = omega (arith, length-take i xs, length-take i ys) in
    rw (take-add i n xs, take-add i n ys) (sad_append (take i xs) (take i ys) (take n (drop i xs)) (take n (drop i ys)) e)

pub sad_one : (i : ℕ) (xs ys : List ℕ) → length xs ≡ length ys → i < length xs → sad (take (i + 1) xs) (take (i + 1) ys) ≡ sad (take i xs) (take i ys) + abs_diff (get_or xs i 0) (get_or ys i 0)
sad_one i xs ys p q =
    let r : i < length ys = omega arith in
    let e : length (take i xs) ≡ length (take i ys) = omega (arith, length-take i xs, length-take i ys) in
    let s = sad_cons (get_or xs i 0) (get_or ys i 0) [] [] in
    let t = sad_append (take i xs) (take i ys) (get_or xs i 0 ∷ []) (get_or ys i 0 ∷ []) e in
    rw (take_more xs i 0 q, take_more ys i 0 r) (omega arith)

-- the sum as one over the places
apart : List ℕ → List ℕ → ℕ → ℕ
apart xs ys k = abs_diff (get_or xs k 0) (get_or ys k 0)

front_is : (n : ℕ) (xs ys : List ℕ) → length xs ≡ length ys → n ≤ length xs → sum_below (apart xs ys) n ≡ sad (take n xs) (take n ys)
unfolding sum_below apart
front_is zero xs ys p h = refl
front_is (suc n) xs ys p h =
    let rest = front_is n xs ys p (omega arith) in
    let one = sad_one n xs ys p (omega arith) in
    let e : n + 1 ≡ suc n = omega arith in
    let last = rw e at one in
    omega arith

pub sad_places : (xs ys : List ℕ) → length xs ≡ length ys → sum_below (λ k. abs_diff (slice_index xs k) (slice_index ys k)) (length xs) ≡ sad xs ys
unfolding apart
sad_places xs ys p = front_is (length xs) xs ys p (omega arith) ∙ ap₂ sad (take_all (length xs) xs (omega arith)) (take_all (length xs) ys (omega arith))

-- of bytes
differ_most : (a b : ℕ) → a ≤ 255 → b ≤ 255 → abs_diff a b ≤ 255
differ_most a b h g = omega arith

pub sad_most : (xs ys : List ℕ) (n : ℕ) → ((k : ℕ) → get_or xs k 0 ≤ 255) → ((k : ℕ) → get_or ys k 0 ≤ 255) → length xs ≤ n → sad xs ys ≤ 255 * n
sad_most [] ys n h g few = omega arith
sad_most (x ∷ xs) [] n h g few = omega arith
sad_most (x ∷ xs) (y ∷ ys) zero h g few = absurd (omega arith)
sad_most (x ∷ xs) (y ∷ ys) (suc n) h g few =
    let a = sad_cons x y xs ys in
    let d : abs_diff x y ≤ 255 = differ_most x y (h 0) (g 0) in
    let rest = sad_most xs ys n (λ k. h (suc k)) (λ k. g (suc k)) (omega arith) in
    omega arith
