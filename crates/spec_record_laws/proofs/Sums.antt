-- Sums with weights, and the sizes of what the forward transforms make.
use Rattle.std.proofs.Common.{◌≡◌, ◌≤◌, ◌+◌, ◌*◌, ◌+ℤ◌, ◌*ℤ◌, ℕ, zero, suc, ℤ, pos, negsuc, List, arith}
use Rattle.std.specs.Prelude.{nat_abs}
use Rattle.std.proofs.lemmas.Int.{ints}
use Rattle.std.proofs.lemmas.Nat.{mul-le}
use Rattle.spec_basics.specs.Bounds.{Within}
use Rattle.spec_residual.specs.Blocks.{item, transposed, product, transformed}
use Rattle.spec_basics.specs.Sums.{int_sum_below}
use Rattle.spec_residual.proofs.Bounds.{within_more}

-- each item is at most b in size
pub record AreSmall (b : ℕ) (xs : List ℤ) : Type 0 where
  pub at : (k : ℕ) → Within b (item xs k)

pub product_within : (a b : ℕ) (c x : ℤ) → nat_abs c ≤ a → Within b x → Within (a * b) (c *ℤ x)
product_within a b (pos n) (pos m) h w =
    let k : m ≤ b = omega (arith, ints, w.high) in
    let l : n * m ≤ a * b = mul-le n m a b h k in
    record { low = omega (arith, ints); high = omega (arith, ints) }
product_within a b (pos n) (negsuc m) h w =
    let k : suc m ≤ b = omega (arith, ints, w.low) in
    let l : n * suc m ≤ a * b = mul-le n (suc m) a b h k in
    record { low = omega (arith, ints); high = omega (arith, ints) }
product_within a b (negsuc n) (pos m) h w =
    let k : m ≤ b = omega (arith, ints, w.high) in
    let l : suc n * m ≤ a * b = mul-le (suc n) m a b h k in
    record { low = omega (arith, ints); high = omega (arith, ints) }
product_within a b (negsuc n) (negsuc m) h w =
    let k : suc m ≤ b = omega (arith, ints, w.low) in
    let l : suc n * suc m ≤ a * b = mul-le (suc n) (suc m) a b h k in
    record { low = omega (arith, ints); high = omega (arith, ints) }

swapped_within : (a b : ℕ) (x c : ℤ) → nat_abs c ≤ a → Within b x → Within (a * b) (x *ℤ c)
swapped_within a b (pos m) (pos n) h w =
    let k : m ≤ b = omega (arith, ints, w.high) in
    let l : n * m ≤ a * b = mul-le n m a b h k in
    record { low = omega (arith, ints); high = omega (arith, ints) }
swapped_within a b (negsuc m) (pos n) h w =
    let k : suc m ≤ b = omega (arith, ints, w.low) in
    let l : n * suc m ≤ a * b = mul-le n (suc m) a b h k in
    record { low = omega (arith, ints); high = omega (arith, ints) }
swapped_within a b (pos m) (negsuc n) h w =
    let k : m ≤ b = omega (arith, ints, w.high) in
    let l : suc n * m ≤ a * b = mul-le (suc n) m a b h k in
    record { low = omega (arith, ints); high = omega (arith, ints) }
swapped_within a b (negsuc m) (negsuc n) h w =
    let k : suc m ≤ b = omega (arith, ints, w.low) in
    let l : suc n * suc m ≤ a * b = mul-le (suc n) (suc m) a b h k in
    record { low = omega (arith, ints); high = omega (arith, ints) }

-- the sizes of the first n weights together
abbrev pub weights : ℕ → (ℕ → ℤ) → ℕ
weights zero c = 0
weights (suc n) c = weights n c + nat_abs (c n)

sum_within : (a b : ℕ) (x y : ℤ) → Within a x → Within b y → Within (a + b) (x +ℤ y)
sum_within a b x y v w = record { low = omega (arith, ints); high = omega (arith, ints) }

same_bound : (a b : ℕ) (x : ℤ) → a ≡ b → Within a x → Within b x
same_bound a b x e w = record { low = omega (arith, ints); high = omega (arith, ints) }

le-refl : (n : ℕ) → n ≤ n
le-refl n = omega arith

none_within : (m : ℕ) → Within m (pos 0)
none_within m = record { low = omega (arith, ints); high = omega (arith, ints) }

pub weighted_left : (n m : ℕ) (c y : ℕ → ℤ) → ((k : ℕ) → Within m (y k)) → Within (weights n c * m) (int_sum_below n (λ k. c k *ℤ y k))
weighted_left zero m c y h = none_within (0 * m)
weighted_left (suc n) m c y h =
    same_bound _ _ _ (let e : weights n c * m + nat_abs (c n) * m ≡ (weights n c + nat_abs (c n)) * m = grind arith in e)
    (sum_within _ _ _ _ (weighted_left n m c y h) (product_within _ m (c n) (y n) (le-refl _) (h n)))

pub weighted_right : (n m : ℕ) (c y : ℕ → ℤ) → ((k : ℕ) → Within m (y k)) → Within (weights n c * m) (int_sum_below n (λ k. y k *ℤ c k))
weighted_right zero m c y h = none_within (0 * m)
weighted_right (suc n) m c y h =
    same_bound _ _ _ (let e : weights n c * m + nat_abs (c n) * m ≡ (weights n c + nat_abs (c n)) * m = grind arith in e)
    (sum_within _ _ _ _ (weighted_right n m c y h) (swapped_within _ m (y n) (c n) (le-refl _) (h n)))

-- C·X·Cᵀ, where the weights of a row of C are at most r, and those of another at most s
pub transformed_within : (n m r s : ℕ) (c x : ℕ → ℕ → ℤ) (i j : ℕ) → weights n (c i) ≤ r → weights n (c j) ≤ s → ((a b : ℕ) → Within m (x a b)) → Within (r * (s * m)) (transformed n c x i j)
transformed_within n m r s c x i j h g w =
    within_more (weights n (c i) * (s * m)) (r * (s * m)) _ (mul-le (weights n (c i)) (s * m) r (s * m) h (le-refl _))
    (weighted_left n (s * m) (c i) (λ k. product n x (transposed c) k j)
    (λ k. within_more (weights n (c j) * m) (s * m) _ (mul-le (weights n (c j)) m s m g (le-refl _)) (weighted_right n m (c j) (x k) (w k))))
