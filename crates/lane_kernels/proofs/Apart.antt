-- Absolute differences by lanes of 32 bits, as the vector operations compute them.
use Rattle.std.proofs.Common.{◌≡◌, ℕ, zero, suc, ◌+◌, ◌-◌, ◌*◌, ◌%◌, ◌^◌, ◌<◌, ◌≤◌, Bool, true, false, cond, ltb, T, List, [], ◌∷◌, map, length, get_or, replicate, refl, ap, ◌∙◌, arith, w8, w32, Fits, ltb-true, ltb-false, pos, to_z}
use Rattle.std.proofs.lemmas.Int.{ints}
use Rattle.std.proofs.lemmas.Bool.Decides.{nat_tests}
use Rattle.std.proofs.lemmas.List.Sums.{sum_by-cons}
use Rattle.std.specs.Prelude.{sum}
use Rattle.std.specs.Int.{abs_diff}
use Rattle.std.proofs.Math.IntN.{nat_abs}
use lib.Lanes.{zip2, sel_l, top, fold_l, sum_l, Each1}
use Rattle.std.proofs.lemmas.Simd.{Each1-from_get_or}
use lib.Signed.{lt_z, non_neg}
use Rattle.spec_basics.specs.Sums.{sad}

abbrev pub wsub : ℕ → ℕ → ℕ
wsub a b = (a + (2 ^ 32 - b)) % 2 ^ 32

abbrev pub wadd : ℕ → ℕ → ℕ
wadd a b = (a + b) % 2 ^ 32

abbrev pub below : ℕ → ℕ → ℕ
below a b = cond (lt_z (to_z w32 a) (to_z w32 b)) (2 ^ 32 - 1) 0

pub up_diff : (x y : ℕ) → x < 256 → y ≤ x → wsub x y ≡ x - y
up_diff x y p q = omega arith

pub down_diff : (x y : ℕ) → y < 256 → x < y → wsub x y ≡ 2 ^ 32 - (y - x)
down_diff x y p q = omega arith

pub abs_low : (d : ℕ) → d < 256 → cond (top 31 (below d (wsub 0 d))) (wsub 0 d) d ≡ d
abs_low d p = grind (arith, ints, nat_tests)

pub abs_high : (d : ℕ) → 0 < d → d < 256 → cond (top 31 (below (2 ^ 32 - d) (wsub 0 (2 ^ 32 - d)))) (wsub 0 (2 ^ 32 - d)) (2 ^ 32 - d) ≡ d
abs_high d p q = grind (arith, ints, nat_tests)

-- one lane
pub one_lane : (x y : ℕ) → x < 256 → y < 256 → cond (top 31 (below (wsub x y) (wsub 0 (wsub x y)))) (wsub 0 (wsub x y)) (wsub x y) ≡ abs_diff x y
one_lane x y p q = go (ltb x y) refl
  where
    M : ℕ → Type 0
    M d = cond (top 31 (below d (wsub 0 d))) (wsub 0 d) d ≡ abs_diff x y

    go : (t : Bool) → ltb x y ≡ t → cond (top 31 (below (wsub x y) (wsub 0 (wsub x y)))) (wsub 0 (wsub x y)) (wsub x y) ≡ abs_diff x y
    go false e = let le : y ≤ x = ltb-false _ _ e in rw (up_diff x y p le) (abs_low (x - y) (omega arith) ∙ omega arith)
    go true e = let lt : x < y = ltb-true _ _ e in rw (down_diff x y q lt) (abs_high (y - x) (omega arith) (omega arith) ∙ omega arith)

abbrev pub sizes : List ℕ → List ℕ → List ℕ
sizes zs vs = sel_l (map (top 31) (zip2 below vs (zip2 wsub zs vs))) (zip2 wsub zs vs) vs

-- all lanes
pub all_lanes : (n : ℕ) (xs ys : List ℕ) → length xs ≡ n → length ys ≡ n → Each1 (Fits w8) xs → Each1 (Fits w8) ys
    → sizes (replicate n 0) (zip2 wsub (map (λ a. a) xs) (map (λ a. a) ys)) ≡ zip2 abs_diff xs ys
all_lanes zero [] [] a b f g = refl
all_lanes zero [] (y ∷ ys) a b f g = refl
all_lanes zero (x ∷ xs) ys a b f g = absurd (omega arith)
all_lanes (suc n) [] ys a b f g = absurd (omega arith)
all_lanes (suc n) (x ∷ xs) [] a b f g = absurd (omega arith)
all_lanes (suc n) (x ∷ xs) (y ∷ ys) a b f g =
    let h = one_lane x y f.0.fits g.0.fits in
    let t = all_lanes n xs ys (omega arith) (omega arith) f.1 g.1 in
    cc

pub wrapped_sum : (a : ℕ) (xs : List ℕ) → a + sum xs < 2 ^ 32 → fold_l wadd a xs ≡ a + sum xs
wrapped_sum a [] p = omega arith
wrapped_sum a (x ∷ xs) p =
    let s = sum_by-cons (λ (v : ℕ). v) x xs in
    let e : wadd a x ≡ a + x = omega arith in
    ap (λ v. fold_l wadd v xs) e ∙ wrapped_sum (a + x) xs (omega arith) ∙ omega arith

pub diff_small : (xs ys : List ℕ) → Each1 (Fits w8) xs → Each1 (Fits w8) ys → sad xs ys ≤ 255 * length xs
diff_small [] ys f g = omega arith
diff_small (x ∷ xs) [] f g = omega arith
diff_small (x ∷ xs) (y ∷ ys) f g =
    let s = sum_by-cons (λ (v : ℕ). v) (abs_diff x y) (zip2 abs_diff xs ys) in
    let h = diff_small xs ys f.1 g.1 in
    let p : x < 256 = f.0.fits in
    let q : y < 256 = g.0.fits in
    omega arith

pub sad_lanes : (n : ℕ) (xs ys : List ℕ) → n ≤ 64 → length xs ≡ n → length ys ≡ n → Each1 (Fits w8) xs → Each1 (Fits w8) ys
    → nat_abs (to_z w32 (fold_l wadd 0 (sizes (replicate n 0) (zip2 wsub (map (λ a. a) xs) (map (λ a. a) ys))))) ≡ sad xs ys
sad_lanes n xs ys small a b f g =
    let e = all_lanes n xs ys a b f g in
    let m = diff_small xs ys f g in
    let s = wrapped_sum 0 (zip2 abs_diff xs ys) (omega arith) in
    let total : fold_l wadd 0 (sizes (replicate n 0) (zip2 wsub (map (λ a. a) xs) (map (λ a. a) ys))) ≡ sad xs ys = ap (fold_l wadd 0) e ∙ s ∙ omega arith in
    let z : to_z w32 (sad xs ys) ≡ pos (sad xs ys) = omega (arith, ints) in
    ap (λ v. nat_abs (to_z w32 v)) total ∙ ap nat_abs z

pub bytes_fit : (xs : List ℕ) → ((i : ℕ) → get_or xs i 0 < 256) → Each1 (Fits w8) xs
bytes_fit xs h = Each1-from_get_or (Fits w8) xs 0 (λ i _. record { fits = h i })

-- LANES THAT ARE ADDED UP

abbrev pub AtMost : ℕ → List ℕ → Type 0
AtMost b xs = Each1 (λ a. a ≤ b) xs

pub sum_is : (xs : List ℕ) → sum_l xs ≡ sum xs
sum_is [] = refl
sum_is (x ∷ xs) =
    let s = sum_by-cons (λ (v : ℕ). v) x xs in
    let h = sum_is xs in
    omega arith

-- lanes that don't wrap
pub added_sum : (n b : ℕ) (xs ys : List ℕ) → b ≤ 65280 → length xs ≡ n → length ys ≡ n → AtMost b xs → AtMost 255 ys
    → (sum_l (zip2 wadd xs ys) ≡ sum_l xs + sum_l ys) × AtMost (b + 255) (zip2 wadd xs ys) × (length (zip2 wadd xs ys) ≡ n)
added_sum zero b [] [] s p q f g = (omega arith, tt, refl)
added_sum zero b [] (y ∷ ys) s p q f g = absurd (omega arith)
added_sum zero b (x ∷ xs) ys s p q f g = absurd (omega arith)
added_sum (suc n) b [] ys s p q f g = absurd (omega arith)
added_sum (suc n) b (x ∷ xs) [] s p q f g = absurd (omega arith)
added_sum (suc n) b (x ∷ xs) (y ∷ ys) s p q f g =
    let h = added_sum n b xs ys s (omega arith) (omega arith) f.1 g.1 in
    let low_x : x ≤ b = f.0 in
    let low_y : y ≤ 255 = g.0 in
    let e : wadd x y ≡ x + y = omega arith in
    (omega (arith, h.0), (omega arith, h.1), omega (arith, h.2))

pub diffs_small : (xs ys : List ℕ) → Each1 (Fits w8) xs → Each1 (Fits w8) ys → AtMost 255 (zip2 abs_diff xs ys)
diffs_small [] ys f g = tt
diffs_small (x ∷ xs) [] f g = tt
diffs_small (x ∷ xs) (y ∷ ys) f g =
    let p : x < 256 = f.0.fits in
    let q : y < 256 = g.0.fits in
    (omega arith, diffs_small xs ys f.1 g.1)

pub length-diffs : (n : ℕ) (xs ys : List ℕ) → length xs ≡ n → length ys ≡ n → length (zip2 abs_diff xs ys) ≡ n
length-diffs zero [] ys p q = refl
length-diffs zero (x ∷ xs) ys p q = absurd (omega arith)
length-diffs (suc n) [] ys p q = absurd (omega arith)
length-diffs (suc n) (x ∷ xs) [] p q = absurd (omega arith)
length-diffs (suc n) (x ∷ xs) (y ∷ ys) p q = let h = length-diffs n xs ys (omega arith) (omega arith) in omega arith

cast_same : (xs : List ℕ) → AtMost 255 xs → map (λ a. nat_abs (to_z w32 a)) xs ≡ xs
cast_same [] h = refl
cast_same (x ∷ xs) h =
    let r = cast_same xs h.1 in
    let p : x ≤ 255 = h.0 in
    let z : to_z w32 x ≡ pos x = omega (arith, ints) in
    let e : nat_abs (to_z w32 x) ≡ x = ap nat_abs z in
    cc

-- what one row adds
pub record Added (n : ℕ) (all new xs ys : List ℕ) : Type 0 where
  pub lanes : length new ≡ n
  pub total : sum_l new ≡ sum_l all + sad xs ys
  pub most : (b : ℕ) → b ≤ 65280 → AtMost b all → AtMost (b + 255) new

pub row_added : (n : ℕ) (all xs ys : List ℕ) → length all ≡ n → length xs ≡ n → length ys ≡ n → AtMost 65280 all → Each1 (Fits w8) xs → Each1 (Fits w8) ys
    → Added n all (zip2 wadd all (map (λ a. nat_abs (to_z w32 a)) (sizes (replicate n 0) (zip2 wsub (map (λ a. a) xs) (map (λ a. a) ys))))) xs ys
row_added n all xs ys o p q low f g =
    let e = all_lanes n xs ys p q f g in
    let l = length-diffs n xs ys p q in
    let d = diffs_small xs ys f g in
    let one = added_sum n 65280 all (zip2 abs_diff xs ys) (omega arith) o l low d in
    let s = sum_is (zip2 abs_diff xs ys) in
    rw (e, cast_same (zip2 abs_diff xs ys) d) (record {
      lanes = one.2;
      total = omega (arith, one.0);
      most = λ b small h. (added_sum n b all (zip2 abs_diff xs ys) small o l h d).1;
    })

pub lanes_most : (n b : ℕ) (xs : List ℕ) → length xs ≡ n → AtMost b xs → sum_l xs ≤ b * n
lanes_most zero b [] p h = omega arith
lanes_most zero b (x ∷ xs) p h = absurd (omega arith)
lanes_most (suc n) b [] p h = absurd (omega arith)
lanes_most (suc n) b (x ∷ xs) p h = let r = lanes_most n b xs (omega arith) h.1 in let q : x ≤ b = h.0 in omega arith

pub total_lanes : (n : ℕ) (xs : List ℕ) → n ≤ 16 → length xs ≡ n → AtMost 65280 xs → fold_l wadd 0 xs ≡ sum_l xs
total_lanes n xs small p h =
    let m = lanes_most n 65280 xs p h in
    let i = sum_is xs in
    let s = wrapped_sum 0 xs (omega arith) in
    s ∙ omega arith

pub bytes_most : (xs : List ℕ) → Each1 (Fits w8) xs → AtMost 255 xs
bytes_most [] f = tt
bytes_most (x ∷ xs) f = let p : x < 256 = f.0.fits in (omega arith, bytes_most xs f.1)

pub cast_fits : (a : ℕ) → a ≤ 255 → T (non_neg (to_z w32 a)) × Fits w32 (nat_abs (to_z w32 a))
cast_fits a p =
    let z : to_z w32 a ≡ pos a = omega (arith, ints) in
    rw z (tt, record { fits = omega arith })
