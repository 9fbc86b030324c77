-- Lists of samples of eight bits.
use Rattle.std.proofs.Common.{◌≡◌, ◌≤◌, ◌<◌, ◌+◌, ◌*◌, ◌/◌, ◌++◌, ◌⊎◌, ℕ, zero, suc, ℤ, pos, negsuc, Bool, true, false, cond, List, [], ◌∷◌, length, take, drop, map, replicate, get_or, sum, arith, inl, inr, lit≤}
use Rattle.std.specs.List.{range_with_len}
use Rattle.std.proofs.lemmas.Bool.{cases_lt}
use Rattle.std.proofs.lemmas.List.{get_or_past, get_or-drop}
use Rattle.std.proofs.lemmas.List.FromFn.{length-map-range_with_len, get_or-map-range_with_len}
use Rattle.std.proofs.lemmas.List.Sums.{sum_by-cons}
use Rattle.std.proofs.Math.Nat.{div-mul-le_self, mul-le-mul_right}
use Rattle.spec_basics.specs.Clip.{clip1}
use Rattle.spec_intra.specs.Block.{line, block}
use Rattle.spec_intra.specs.Means.{mean}
use Rattle.spec_record_laws.specs.Coded.{AreBytes}

at_most : (a b : ℕ) → a ≡ b → b ≤ 255 → a ≤ 255
at_most a b e h = omega arith

none_at_most : (a : ℕ) → a ≡ 0 → a ≤ 255
none_at_most a e = omega arith

pub mapped_at : (n : ℕ) (f : ℕ → ℕ) → ((k : ℕ) → f k ≤ 255) → (k : ℕ) → (k < n) ⊎ (n ≤ k) → get_or (map f (range_with_len 0 n)) k 0 ≤ 255
mapped_at n f small k (inl l) = at_most _ _ (get_or-map-range_with_len f 0 n k k 0 l (omega arith)) (small k)
mapped_at n f small k (inr g) = none_at_most _ (get_or_past (map f (range_with_len 0 n)) k 0 (omega (arith, length-map-range_with_len f 0 n)))

pub line_bytes : (n : ℕ) (f : ℕ → ℕ) → ((k : ℕ) → f k ≤ 255) → AreBytes (line n f)
unfolding line
line_bytes n f small = record { at = λ k. mapped_at n f small k (cases_lt k n) }

pub block_bytes : (n : ℕ) (f : ℕ → ℕ → ℕ) → ((x y : ℕ) → f x y ≤ 255) → AreBytes (block n f)
unfolding block
block_bytes n f small = record { at = λ k. mapped_at (n * n) (λ k. f _ _) (λ k. small _ _) k (cases_lt k (n * n)) }

append_at : (xs ys : List ℕ) → ((k : ℕ) → get_or xs k 0 ≤ 255) → ((k : ℕ) → get_or ys k 0 ≤ 255) → (k : ℕ) → get_or (xs ++ ys) k 0 ≤ 255
append_at [] ys h g k = g k
append_at (x ∷ xs) ys h g zero = h zero
append_at (x ∷ xs) ys h g (suc k) = append_at xs ys (λ j. h (suc j)) g k

pub append_bytes : (xs ys : List ℕ) → AreBytes xs → AreBytes ys → AreBytes (xs ++ ys)
append_bytes xs ys h g = record { at = append_at xs ys h.at g.at }

zeros_at : (n k : ℕ) → get_or (replicate n 0) k 0 ≤ 255
zeros_at zero k = lit≤ tt
zeros_at (suc n) zero = lit≤ tt
zeros_at (suc n) (suc k) = zeros_at n k

pub zeros_bytes : (n : ℕ) → AreBytes (replicate n 0)
zeros_bytes n = record { at = zeros_at n }

take_at : (n : ℕ) (xs : List ℕ) → ((k : ℕ) → get_or xs k 0 ≤ 255) → (k : ℕ) → get_or (take n xs) k 0 ≤ 255
take_at zero xs h k = lit≤ tt
take_at (suc n) [] h k = lit≤ tt
take_at (suc n) (x ∷ xs) h zero = h zero
take_at (suc n) (x ∷ xs) h (suc k) = take_at n xs (λ j. h (suc j)) k

pub take_bytes : (n : ℕ) (xs : List ℕ) → AreBytes xs → AreBytes (take n xs)
take_bytes n xs h = record { at = take_at n xs h.at }

pub drop_bytes : (n : ℕ) (xs : List ℕ) → AreBytes xs → AreBytes (drop n xs)
drop_bytes n xs h = record { at = λ k. at_most _ _ (get_or-drop n xs k 0) (h.at (n + k)) }

pub none_bytes : AreBytes []
none_bytes = record { at = λ k. lit≤ tt }

cons_at : (x : ℕ) (xs : List ℕ) → x ≤ 255 → ((k : ℕ) → get_or xs k 0 ≤ 255) → (k : ℕ) → get_or (x ∷ xs) k 0 ≤ 255
cons_at x xs h g zero = h
cons_at x xs h g (suc k) = g k

pub cons_bytes : (x : ℕ) (xs : List ℕ) → x ≤ 255 → AreBytes xs → AreBytes (x ∷ xs)
cons_bytes x xs h g = record { at = cons_at x xs h g.at }

pub cond_bytes : (b : Bool) (xs ys : List ℕ) → AreBytes xs → AreBytes ys → AreBytes (cond b xs ys)
cond_bytes true xs ys h g = h
cond_bytes false xs ys h g = g

pub cond_small : (b : Bool) (x y : ℕ) → x ≤ 255 → y ≤ 255 → cond b x y ≤ 255
cond_small true x y h g = h
cond_small false x y h g = g

pub clip1_small : (z : ℤ) → clip1 z ≤ 255
clip1_small (pos n) = omega arith
clip1_small (negsuc n) = lit≤ tt

-- ---- means

sum_small : (xs : List ℕ) → ((k : ℕ) → get_or xs k 0 ≤ 255) → sum xs ≤ 255 * length xs
sum_small [] h = omega arith
sum_small (x ∷ xs) h = let first : x ≤ 255 = h zero in let rest = sum_small xs (λ j. h (suc j)) in omega (arith, sum_by-cons (λ x. x) x xs)

below_256 : (s l : ℕ) → 0 < l → s ≤ 255 * l → (((s + l / 2) / l) < 256) ⊎ (256 ≤ ((s + l / 2) / l)) → (s + l / 2) / l ≤ 255
below_256 s l some h (inl q) = omega arith
below_256 s l some h (inr q) =
    let a = mul-le-mul_right {m = 256} {n = (s + l / 2) / l} l q in
    let b = div-mul-le_self (s + l / 2) l in
    absurd (omega arith)

pub mean_small : (xs : List ℕ) → AreBytes xs → mean xs ≤ 255
unfolding mean
mean_small [] h = lit≤ tt
mean_small (x ∷ xs) h = below_256 (sum (x ∷ xs)) (length (x ∷ xs)) (omega arith) (sum_small (x ∷ xs) h.at) (cases_lt _ 256)
