-- Blocks, a row more at a time.
use Rattle.std.proofs.Common.{◌≡◌, ℕ, zero, suc, ◌+◌, ◌-◌, ◌*◌, ◌<◌, ◌≤◌, List, [], ◌∷◌, length, get_or, take, drop, refl, sym, ◌∙◌, arith, replicate}
use Rattle.std.proofs.lemmas.Grind.{common_steps}
use Rattle.std.proofs.lemmas.List.{length-take-le, take_more}
use Rattle.std.specs.Int.{abs_diff}
use Rattle.spec_basics.specs.Sums.{sad, sum_below}
use Rattle.spec_kernels.specs.Sums.{block_difference, strided}
use Rattle.spec_kernels.proofs.SumLaws.{sum-zero, sum-more, sum-same, block-rows, block-none}
use Rattle.lane_kernels.proofs.Apart.{AtMost}
use Rattle.spec_basics.proofs.SadLaws.{sad_cons, sad_append}

pub weaker : (b c : ℕ) (xs : List ℕ) → b ≤ c → AtMost b xs → AtMost c xs
weaker b c [] p h = tt
weaker b c (x ∷ xs) p h = let q : x ≤ b = h.0 in (omega arith, weaker b c xs p h.1)

pub zeros_most : (n : ℕ) → AtMost 0 (replicate n 0)
zeros_most zero = tt
zeros_most (suc n) = (omega arith, zeros_most n)

pub row_sum : (n : ℕ) (xs ys : List ℕ) → n ≤ length xs → n ≤ length ys → sad (take n xs) (take n ys) ≡ sum_below (λ k. abs_diff (get_or xs k 0) (get_or ys k 0)) n
row_sum zero xs ys p q = sym (sum-zero (λ k. abs_diff (get_or xs k 0) (get_or ys k 0)))
row_sum (suc n) xs ys p q =
    let h = row_sum n xs ys (omega arith) (omega arith) in
    let u : n < length xs = omega arith in
    let v : n < length ys = omega arith in
    let l : length (take n xs) ≡ length (take n ys) = omega (arith, length-take-le n xs (omega arith), length-take-le n ys (omega arith)) in
    let c = sad_cons (get_or xs n 0) (get_or ys n 0) [] [] in
    let t = sad_append (take n xs) (take n ys) (get_or xs n 0 ∷ []) (get_or ys n 0 ∷ []) l in
    let s = sum-more (λ k. abs_diff (get_or xs k 0) (get_or ys k 0)) n in
    let e : suc n ≡ n + 1 = omega arith in
    rw (e, take_more xs n 0 u, take_more ys n 0 v, s) (omega arith)

pub place_in : (w i k : ℕ) (a : List ℕ) → k < w → i + w ≤ length a → get_or (take (length a - i) (drop i a)) k 0 ≡ get_or a (i + k) 0
place_in w i k a p q = grind (arith, common_steps)

pub rows_more : (w n sa sb : ℕ) (a b : List ℕ) → n * sa + w ≤ length a → n * sb + w ≤ length b
    → block_difference (strided a sa) (strided b sb) w (n + 1) ≡ block_difference (strided a sa) (strided b sb) w n + sad (take w (take (length a - n * sa) (drop (n * sa) a))) (take w (take (length b - n * sb) (drop (n * sb) b)))
rows_more w n sa sb a b p q =
    let xs : List ℕ = take (length a - n * sa) (drop (n * sa) a) in
    let ys : List ℕ = take (length b - n * sb) (drop (n * sb) b) in
    let lx : w ≤ length xs = grind (arith, common_steps) in
    let ly : w ≤ length ys = grind (arith, common_steps) in
    let r = row_sum w xs ys lx ly in
    let s = sum-same (λ k. abs_diff (get_or xs k 0) (get_or ys k 0)) (λ k. abs_diff (strided a sa k n) (strided b sb k n)) w (λ k h.
    (let d = place_in w (n * sa) k a h p in let e = place_in w (n * sb) k b h q in rw (d, e) refl)) in
    let t = block-rows (λ i j. abs_diff (strided a sa i j) (strided b sb i j)) w n in
    t ∙ omega arith

pub rows_none : (w sa sb : ℕ) (a b : List ℕ) → block_difference (strided a sa) (strided b sb) w 0 ≡ 0
rows_none w sa sb a b = block-none (λ i j. abs_diff (strided a sa i j) (strided b sb i j)) w

pub row_inside : (n m s w l : ℕ) → n < m → (m - 1) * s + w ≤ l → n * s + w ≤ l
row_inside n m s w l p q = let e : m - 1 ≡ n + (m - 1 - n) = omega arith in grind arith
