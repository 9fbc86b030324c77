-- Sums over blocks: equal where the samples are, and how they are put together of parts.
use Rattle.std.proofs.Common.{◌≡◌, ℕ, zero, suc, ◌+◌, ◌*◌, ◌<◌, ◌≤◌, refl, sym, ap, ◌∙◌, arith, add-one}
use Rattle.std.specs.Int.{abs_diff}
use Rattle.spec_basics.specs.Sums.{sum_below}
use Rattle.spec_kernels.specs.Sums.{block_sum, block_difference, shifted, sum_apart, BoundBelow, BoundAdds}

pub sum-zero : (f : ℕ → ℕ) → sum_below f 0 ≡ 0
unfolding sum_below
sum-zero f = refl

pub sum-more : (f : ℕ → ℕ) (n : ℕ) → sum_below f (n + 1) ≡ sum_below f n + f n
unfolding sum_below
sum-more f n = rw add-one refl

pub sum-same : (f g : ℕ → ℕ) (n : ℕ) → ((i : ℕ) → i < n → f i ≡ g i) → sum_below f n ≡ sum_below g n
unfolding sum_below
sum-same f g zero h = refl
sum-same f g (suc n) h =
    let a = sum-same f g n (λ i p. h i (omega arith)) in
    let b = h n (omega arith) in
    omega arith

pub sum-below : (f g : ℕ → ℕ) (n : ℕ) → ((i : ℕ) → i < n → f i ≤ g i) → sum_below f n ≤ sum_below g n
unfolding sum_below
sum-below f g zero h = omega arith
sum-below f g (suc n) h =
    let a = sum-below f g n (λ i p. h i (omega arith)) in
    let b = h n (omega arith) in
    omega arith

pub sum-plus : (f g : ℕ → ℕ) (n : ℕ) → sum_below (λ i. f i + g i) n ≡ sum_below f n + sum_below g n
unfolding sum_below
sum-plus f g zero = refl
sum-plus f g (suc n) = let a = sum-plus f g n in omega arith

pub sum-most : (f : ℕ → ℕ) (b n : ℕ) → ((i : ℕ) → i < n → f i ≤ b) → sum_below f n ≤ b * n
unfolding sum_below
sum-most f b zero h = omega arith
sum-most f b (suc n) h =
    let a = sum-most f b n (λ i p. h i (omega arith)) in
    let c = h n (omega arith) in
    omega arith

-- the first n items, and then m more
pub sum-add : (f : ℕ → ℕ) (n m : ℕ) → sum_below f (n + m) ≡ sum_below f n + sum_below (λ i. f (n + i)) m
unfolding sum_below
sum-add f n zero = ap (sum_below f) (let e : n + 0 ≡ n = omega arith in e) ∙ omega arith
sum-add f n (suc m) =
    let e : n + suc m ≡ suc (n + m) = omega arith in
    let a = sum-add f n m in
    ap (sum_below f) e ∙ omega arith

-- the same by parts of k items
pub sum-parts : (f : ℕ → ℕ) (k n : ℕ) → sum_below f (k * n) ≡ sum_below (λ j. sum_below (λ i. f (k * j + i)) k) n
unfolding sum_below
sum-parts f k zero = ap (sum_below f) (let e : k * 0 ≡ 0 = omega arith in e)
sum-parts f k (suc n) =
    let e : k * suc n ≡ k * n + k = omega arith in
    let a = sum-parts f k n in
    let b = sum-add f (k * n) k in
    ap (sum_below f) e ∙ omega arith

sum-nothing : (n : ℕ) → sum_below (λ i. 0) n ≡ 0
unfolding sum_below
sum-nothing zero = refl
sum-nothing (suc n) = let a = sum-nothing n in omega arith

-- sums over two numbers in either order
pub sum-swap : (f : ℕ → ℕ → ℕ) (m n : ℕ) → sum_below (λ j. sum_below (λ i. f i j) m) n ≡ sum_below (λ i. sum_below (λ j. f i j) n) m
unfolding sum_below
sum-swap f m zero = sym (sum-nothing m)
sum-swap f m (suc n) =
    let a = sum-swap f m n in
    let b = sum-plus (λ i. sum_below (λ j. f i j) n) (λ i. f i n) m in
    omega arith

pub block-same : (f g : ℕ → ℕ → ℕ) (w h : ℕ) → ((i j : ℕ) → i < w → j < h → f i j ≡ g i j) → block_sum f w h ≡ block_sum g w h
unfolding block_sum
block-same f g w h e = sum-same (λ j. sum_below (λ i. f i j) w) (λ j. sum_below (λ i. g i j) w) h (λ j q. sum-same (λ i. f i j) (λ i. g i j) w (λ i p. e i j p q))

pub block-most : (f : ℕ → ℕ → ℕ) (b w h : ℕ) → ((i j : ℕ) → i < w → j < h → f i j ≤ b) → block_sum f w h ≤ b * w * h
unfolding block_sum
block-most f b w h e = sum-most (λ j. sum_below (λ i. f i j) w) (b * w) h (λ j q. sum-most (λ i. f i j) b w (λ i p. e i j p q))

pub block-rows : (f : ℕ → ℕ → ℕ) (w h : ℕ) → block_sum f w (h + 1) ≡ block_sum f w h + sum_below (λ i. f i h) w
unfolding block_sum
block-rows f w h = sum-more (λ j. sum_below (λ i. f i j) w) h

pub block-none : (f : ℕ → ℕ → ℕ) (w : ℕ) → block_sum f w 0 ≡ 0
unfolding block_sum
block-none f w = sum-zero (λ j. sum_below (λ i. f i j) w)

apart-sums : (f g : ℕ → ℕ) (n : ℕ) → abs_diff (sum_below f n) (sum_below g n) ≤ sum_below (λ i. abs_diff (f i) (g i)) n
unfolding sum_below
apart-sums f g zero = omega arith
apart-sums f g (suc n) = let a = apart-sums f g n in omega arith

pub bound_below : BoundBelow
unfolding block_sum
bound_below f g w h =
    let a = apart-sums (λ j. sum_below (λ i. f i j) w) (λ j. sum_below (λ i. g i j) w) h in
    let b = sum-below (λ j. abs_diff (sum_below (λ i. f i j) w) (sum_below (λ i. g i j) w)) (λ j. sum_below (λ i. abs_diff (f i j) (g i j)) w) h (λ j q. apart-sums (λ i. f i j) (λ i. g i j) w) in
    omega arith

-- a block is put together of its 8x8 parts
pub block-parts : (f : ℕ → ℕ → ℕ) (m n : ℕ) → block_sum f (8 * m) (8 * n) ≡ block_sum (λ k l. block_sum (shifted f (8 * k) (8 * l)) 8 8) m n
unfolding block_sum
block-parts f m n =
    sum-parts (λ j. sum_below (λ i. f i j) (8 * m)) 8 n
    ∙ sum-same (λ l. sum_below (λ q. sum_below (λ i. f i (8 * l + q)) (8 * m)) 8) (λ l. sum_below (λ k. sum_below (λ q. sum_below (λ p. f (8 * k + p) (8 * l + q)) 8) 8) m) n
    (λ l p. sum-same (λ q. sum_below (λ i. f i (8 * l + q)) (8 * m)) (λ q. sum_below (λ k. sum_below (λ p. f (8 * k + p) (8 * l + q)) 8) m) 8 (λ q r. sum-parts (λ i. f i (8 * l + q)) 8 m)
    ∙ sum-swap (λ k q. sum_below (λ p. f (8 * k + p) (8 * l + q)) 8) m 8)

block-below : (f g : ℕ → ℕ → ℕ) (w h : ℕ) → ((i j : ℕ) → f i j ≤ g i j) → block_sum f w h ≤ block_sum g w h
unfolding block_sum
block-below f g w h e = sum-below (λ j. sum_below (λ i. f i j) w) (λ j. sum_below (λ i. g i j) w) h (λ j q. sum-below (λ i. f i j) (λ i. g i j) w (λ i p. e i j))

pub bound_adds : BoundAdds
bound_adds f g m n =
    let a = block-parts (λ i j. abs_diff (f i j) (g i j)) m n in
    let b = block-below (λ k l. sum_apart (shifted f (8 * k) (8 * l)) (shifted g (8 * k) (8 * l)) 8 8) (λ k l. block_difference (shifted f (8 * k) (8 * l)) (shifted g (8 * k) (8 * l)) 8 8) m n (λ k l. bound_below (shifted f (8 * k) (8 * l)) (shifted g (8 * k) (8 * l)) 8 8) in
    omega arith
