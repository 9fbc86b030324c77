-- Sums over the sub-macroblocks of partitions: costs and bounds of partitions are those of their sub-macroblocks, added up.
use Rattle.std.proofs.Common.{◌≡◌, ℕ, zero, suc, ◌+◌, ◌*◌, ◌/◌, ◌<◌, ◌≤◌, [], ◌∷◌, get_or, ap, ◌∙◌, arith}
use Rattle.std.specs.Prelude.{ℤ, pos, ◌+ℤ◌}
use Rattle.std.specs.Int.{abs_diff}
use Rattle.std.specs.List.{sum_by}
use Rattle.spec_basics.specs.Sums.{sum_below}
use Rattle.spec_kernels.specs.Sums.{block_sum, sum_apart, shifted}
use Rattle.spec_kernels.proofs.SumLaws.{block-parts, block-same}
use Rattle.spec_search.specs.declared.blocks.Block.{Block}
use Rattle.spec_search.specs.Window.{cost_of, bound_of}
use Rattle.spec_inter_plans.specs.InterPlans.{at, partitions}
use Rattle.nine_search.specs.Partitions.{of_partition, partition_block, sub_macroblock}

-- ---- sums of four

pub listed_sums : (f : ℕ → ℕ) (k : ℕ) → k < 9 → get_or ((f 0 + f 1 + f 2 + f 3) ∷ (f 0 + f 1) ∷ (f 2 + f 3) ∷ (f 0 + f 2) ∷ (f 1 + f 3) ∷ f 0 ∷ f 1 ∷ f 2 ∷ f 3 ∷ []) k 0 ≡ of_partition f k
unfolding of_partition
listed_sums f zero p = omega arith
listed_sums f (suc zero) p = omega arith
listed_sums f (suc (suc zero)) p = omega arith
listed_sums f (suc (suc (suc zero))) p = omega arith
listed_sums f (suc (suc (suc (suc zero)))) p = omega arith
listed_sums f (suc (suc (suc (suc (suc zero))))) p = omega arith
listed_sums f (suc (suc (suc (suc (suc (suc zero)))))) p = omega arith
listed_sums f (suc (suc (suc (suc (suc (suc (suc zero))))))) p = omega arith
listed_sums f (suc (suc (suc (suc (suc (suc (suc (suc zero)))))))) p = omega arith
listed_sums f (suc (suc (suc (suc (suc (suc (suc (suc (suc k))))))))) p = absurd (omega arith)

-- a partition's sum is no more than another's where its parts are
pub partition_below : (f g : ℕ → ℕ) → ((q : ℕ) → q < 4 → f q ≤ g q) → (k : ℕ) → of_partition f k ≤ of_partition g k
unfolding of_partition
partition_below f g h k = let a = h 0 (omega arith) in let b = h 1 (omega arith) in let c = h 2 (omega arith) in let d = h 3 (omega arith) in by k a b c d
  where
    by : (k : ℕ) → f 0 ≤ g 0 → f 1 ≤ g 1 → f 2 ≤ g 2 → f 3 ≤ g 3 → of_partition f k ≤ of_partition g k
    by zero a b c d = omega arith
    by (suc zero) a b c d = omega arith
    by (suc (suc zero)) a b c d = omega arith
    by (suc (suc (suc zero))) a b c d = omega arith
    by (suc (suc (suc (suc zero)))) a b c d = omega arith
    by (suc (suc (suc (suc (suc zero))))) a b c d = omega arith
    by (suc (suc (suc (suc (suc (suc zero)))))) a b c d = omega arith
    by (suc (suc (suc (suc (suc (suc (suc zero))))))) a b c d = omega arith
    by (suc (suc (suc (suc (suc (suc (suc (suc zero)))))))) a b c d = omega arith
    by (suc (suc (suc (suc (suc (suc (suc (suc (suc k))))))))) a b c d = omega arith

-- .. and the same where they are
pub partition_same : (f g : ℕ → ℕ) → ((q : ℕ) → q < 4 → f q ≡ g q) → (k : ℕ) → of_partition f k ≡ of_partition g k
partition_same f g h k =
    let a = partition_below f g (λ q p. (let e = h q p in omega arith)) k in
    let b = partition_below g f (λ q p. (let e = h q p in omega arith)) k in
    omega arith

-- ---- what is summed over 8x8 parts

two_two : (g : ℕ → ℕ → ℕ) → block_sum g 2 2 ≡ g 0 0 + g 1 0 + (g 0 1 + g 1 1)
unfolding block_sum sum_below
two_two g = omega arith

two_one : (g : ℕ → ℕ → ℕ) → block_sum g 2 1 ≡ g 0 0 + g 1 0
unfolding block_sum sum_below
two_one g = omega arith

one_two : (g : ℕ → ℕ → ℕ) → block_sum g 1 2 ≡ g 0 0 + g 0 1
unfolding block_sum sum_below
one_two g = omega arith

one_one : (g : ℕ → ℕ → ℕ) → block_sum g 1 1 ≡ g 0 0
unfolding block_sum sum_below
one_one g = omega arith

pub at_same : (g : ℕ → ℕ → ℕ) (a b c d : ℕ) → a ≡ c → b ≡ d → g a b ≡ g c d
at_same g a b c d p q = ap (λ (t : ℕ). g t b) p ∙ ap (g c) q

-- F of a block is the sum of g over the places of its 8x8 parts
abbrev pub AddsUp : (Block → ℕ) → (ℕ → ℕ → ℕ) → Type 0
AddsUp F g = (x y m n : ℕ) → F (at x y (8 * m) (8 * n)) ≡ block_sum (λ k l. g (x + 8 * k) (y + 8 * l)) m n

pub sub_is : (F : Block → ℕ) (g : ℕ → ℕ → ℕ) → AddsUp F g → (x y : ℕ) → F (at x y 8 8) ≡ g x y
sub_is F g h x y =
    let a : F (at x y 8 8) ≡ block_sum (λ k l. g (x + 8 * k) (y + 8 * l)) 1 1 = h x y 1 1 in
    a ∙ one_one (λ k l. g (x + 8 * k) (y + 8 * l)) ∙ at_same g (x + 8 * 0) (y + 8 * 0) x y (omega arith) (omega arith)

whole_is : (F : Block → ℕ) (g : ℕ → ℕ → ℕ) → AddsUp F g → (x y : ℕ) → F (at x y 16 16) ≡ F (at x y 8 8) + F (at (x + 8) y 8 8) + (F (at x (y + 8) 8 8) + F (at (x + 8) (y + 8) 8 8))
whole_is F g h x y =
    let a : F (at x y 16 16) ≡ block_sum (λ k l. g (x + 8 * k) (y + 8 * l)) 2 2 = h x y 2 2 in
    let z = two_two (λ k l. g (x + 8 * k) (y + 8 * l)) in
    let c00 = sub_is F g h x y in
    let c10 = sub_is F g h (x + 8) y in
    let c01 = sub_is F g h x (y + 8) in
    let c11 = sub_is F g h (x + 8) (y + 8) in
    let g00 = at_same g (x + 8 * 0) (y + 8 * 0) x y (omega arith) (omega arith) in
    let g10 = at_same g (x + 8 * 1) (y + 8 * 0) (x + 8) y (omega arith) (omega arith) in
    let g01 = at_same g (x + 8 * 0) (y + 8 * 1) x (y + 8) (omega arith) (omega arith) in
    let g11 = at_same g (x + 8 * 1) (y + 8 * 1) (x + 8) (y + 8) (omega arith) (omega arith) in
    omega arith

wide_is : (F : Block → ℕ) (g : ℕ → ℕ → ℕ) → AddsUp F g → (x y : ℕ) → F (at x y 16 8) ≡ F (at x y 8 8) + F (at (x + 8) y 8 8)
wide_is F g h x y =
    let a : F (at x y 16 8) ≡ block_sum (λ k l. g (x + 8 * k) (y + 8 * l)) 2 1 = h x y 2 1 in
    let z = two_one (λ k l. g (x + 8 * k) (y + 8 * l)) in
    let c00 = sub_is F g h x y in
    let c10 = sub_is F g h (x + 8) y in
    let g00 = at_same g (x + 8 * 0) (y + 8 * 0) x y (omega arith) (omega arith) in
    let g10 = at_same g (x + 8 * 1) (y + 8 * 0) (x + 8) y (omega arith) (omega arith) in
    omega arith

high_is : (F : Block → ℕ) (g : ℕ → ℕ → ℕ) → AddsUp F g → (x y : ℕ) → F (at x y 8 16) ≡ F (at x y 8 8) + F (at x (y + 8) 8 8)
high_is F g h x y =
    let a : F (at x y 8 16) ≡ block_sum (λ k l. g (x + 8 * k) (y + 8 * l)) 1 2 = h x y 1 2 in
    let z = one_two (λ k l. g (x + 8 * k) (y + 8 * l)) in
    let c00 = sub_is F g h x y in
    let c01 = sub_is F g h x (y + 8) in
    let g00 = at_same g (x + 8 * 0) (y + 8 * 0) x y (omega arith) (omega arith) in
    let g01 = at_same g (x + 8 * 0) (y + 8 * 1) x (y + 8) (omega arith) (omega arith) in
    omega arith

pub partition_is : (F : Block → ℕ) (g : ℕ → ℕ → ℕ) → AddsUp F g → (x y k : ℕ) → k < 9 → of_partition (λ q. F (sub_macroblock x y q)) k ≡ F (partition_block x y k)
unfolding of_partition partitions
partition_is F g h x y zero p = let e = whole_is F g h x y in omega arith
partition_is F g h x y (suc zero) p = let e = wide_is F g h x y in omega arith
partition_is F g h x y (suc (suc zero)) p = let e = wide_is F g h x (y + 8) in omega arith
partition_is F g h x y (suc (suc (suc zero))) p = let e = high_is F g h x y in omega arith
partition_is F g h x y (suc (suc (suc (suc zero)))) p = let e = high_is F g h (x + 8) y in omega arith
partition_is F g h x y (suc (suc (suc (suc (suc zero))))) p = omega arith
partition_is F g h x y (suc (suc (suc (suc (suc (suc zero)))))) p = omega arith
partition_is F g h x y (suc (suc (suc (suc (suc (suc (suc zero))))))) p = omega arith
partition_is F g h x y (suc (suc (suc (suc (suc (suc (suc (suc zero)))))))) p = omega arith
partition_is F g h x y (suc (suc (suc (suc (suc (suc (suc (suc (suc k))))))))) p = absurd (omega arith)

-- a sum over the partitions, by their numbers and along their list
pub sums_of_nine : (F : Block → ℕ) (x y : ℕ) → sum_below (λ k. F (partition_block x y k)) 9 ≡ sum_by F (partitions x y)
unfolding sum_below partitions
sums_of_nine F x y = omega arith

-- ---- costs

abbrev pub apart_at : (ℕ → ℕ → ℕ) → (ℤ → ℤ → ℕ) → ℤ → ℤ → ℕ → ℕ → ℕ
apart_at s r dx dy a b = abs_diff (s a b) (r (pos a +ℤ dx) (pos b +ℤ dy))

abbrev pub eight : (ℕ → ℕ → ℕ) → ℕ → ℕ → ℕ
eight e a b = block_sum (λ i j. e (a + i) (b + j)) 8 8

parts : (e : ℕ → ℕ → ℕ) (x y m n : ℕ) → block_sum (λ i j. e (x + i) (y + j)) (8 * m) (8 * n) ≡ block_sum (λ k l. eight e (x + 8 * k) (y + 8 * l)) m n
parts e x y m n =
    block-parts (λ i j. e (x + i) (y + j)) m n
    ∙ block-same (λ k l. block_sum (shifted (λ i j. e (x + i) (y + j)) (8 * k) (8 * l)) 8 8) (λ k l. eight e (x + 8 * k) (y + 8 * l)) m n
    (λ k l p q. block-same (shifted (λ i j. e (x + i) (y + j)) (8 * k) (8 * l)) (λ i j. e (x + 8 * k + i) (y + 8 * l + j)) 8 8
    (λ i j u v. (let a : x + (8 * k + i) ≡ x + 8 * k + i = omega arith in
    let b : y + (8 * l + j) ≡ y + 8 * l + j = omega arith in
    ap (λ (t : ℕ). e t (y + (8 * l + j))) a ∙ ap (e (x + 8 * k + i)) b)))

pub costs_add : (s : ℕ → ℕ → ℕ) (r : ℤ → ℤ → ℕ) (dx dy : ℤ) → AddsUp (λ block. cost_of s r block dx dy) (eight (apart_at s r dx dy))
unfolding cost_of
costs_add s r dx dy x y m n = parts (apart_at s r dx dy) x y m n

-- ---- bounds

abbrev pub sums_apart : (ℕ → ℕ → ℕ) → (ℤ → ℤ → ℕ) → ℤ → ℤ → ℕ → ℕ → ℕ
sums_apart s r dx dy a b = sum_apart (λ i j. s (a + i) (b + j)) (λ i j. r (pos (a + i) +ℤ dx) (pos (b + j) +ℤ dy)) 8 8

pub one_apart : (s : ℕ → ℕ → ℕ) (r : ℤ → ℤ → ℕ) (dx dy : ℤ) (x y k l : ℕ)
    → sum_apart (shifted (λ i j. s (x + i) (y + j)) (8 * k) (8 * l)) (shifted (λ i j. r (pos (x + i) +ℤ dx) (pos (y + j) +ℤ dy)) (8 * k) (8 * l)) 8 8 ≡ sums_apart s r dx dy (x + 8 * k) (y + 8 * l)
one_apart s r dx dy x y k l =
    let a : (i : ℕ) → x + (8 * k + i) ≡ x + 8 * k + i = λ i. omega arith in
    let b : (j : ℕ) → y + (8 * l + j) ≡ y + 8 * l + j = λ j. omega arith in
    let u = block-same (λ i j. s (x + (8 * k + i)) (y + (8 * l + j))) (λ i j. s (x + 8 * k + i) (y + 8 * l + j)) 8 8
    (λ i j p q. ap (λ (t : ℕ). s t (y + (8 * l + j))) (a i) ∙ ap (s (x + 8 * k + i)) (b j)) in
    let v = block-same (λ i j. r (pos (x + (8 * k + i)) +ℤ dx) (pos (y + (8 * l + j)) +ℤ dy)) (λ i j. r (pos (x + 8 * k + i) +ℤ dx) (pos (y + 8 * l + j) +ℤ dy)) 8 8
    (λ i j p q. ap (λ (t : ℕ). r (pos t +ℤ dx) (pos (y + (8 * l + j)) +ℤ dy)) (a i) ∙ ap (λ (t : ℕ). r (pos (x + 8 * k + i) +ℤ dx) (pos t +ℤ dy)) (b j)) in
    ap (λ (t : ℕ). abs_diff t (block_sum (λ i j. r (pos (x + (8 * k + i)) +ℤ dx) (pos (y + (8 * l + j)) +ℤ dy)) 8 8)) u
    ∙ ap (abs_diff (block_sum (λ i j. s (x + 8 * k + i) (y + 8 * l + j)) 8 8)) v

bound_parts : (s : ℕ → ℕ → ℕ) (r : ℤ → ℤ → ℕ) (x y w h m n : ℕ) (dx dy : ℤ) → w / 8 ≡ m → h / 8 ≡ n
    → bound_of s r (at x y w h) dx dy ≡ block_sum (λ k l. sums_apart s r dx dy (x + 8 * k) (y + 8 * l)) m n
unfolding bound_of
bound_parts s r x y w h m n dx dy p q =
    rw (p, q) (block-same (λ k l. sum_apart (shifted (λ i j. s (x + i) (y + j)) (8 * k) (8 * l)) (shifted (λ i j. r (pos (x + i) +ℤ dx) (pos (y + j) +ℤ dy)) (8 * k) (8 * l)) 8 8) (λ k l. sums_apart s r dx dy (x + 8 * k) (y + 8 * l)) m n
    (λ k l u v. one_apart s r dx dy x y k l))

pub bounds_add : (s : ℕ → ℕ → ℕ) (r : ℤ → ℤ → ℕ) (dx dy : ℤ) → AddsUp (λ block. bound_of s r block dx dy) (sums_apart s r dx dy)
bounds_add s r dx dy x y m n = bound_parts s r x y (8 * m) (8 * n) m n dx dy (omega arith) (omega arith)
