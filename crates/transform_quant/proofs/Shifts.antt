-- Halves, quarters and 64ths.
use Rattle.std.proofs.Common.{◌≡◌, ℕ, ℤ, pos, negsuc, ◌+◌, ◌*◌, ◌<◌, ◌+ℤ◌, ◌*ℤ◌, ◌≤ℤ◌, List, length, sym, ap, ◌∙◌, arith, subst}
use Rattle.std.proofs.lemmas.Int.{ints}
use Rattle.std.specs.Int.Signed.{shr_z}
use Rattle.spec_basics.specs.Bounds.{Within}
use Rattle.spec_residual.specs.Blocks.{AllWithin, item, listed, rounded}
use Rattle.spec_residual.proofs.Listed.{is_listed}

-- s is x / n, rounded down
pub record IsShifted (n : ℕ) (x s : ℤ) : Type 0 where
  pub low : x ≤ℤ ((pos (n + 1) *ℤ s) +ℤ pos n)
  pub high : (pos (n + 1) *ℤ s) ≤ℤ x

pub by_2 : (x : ℤ) → IsShifted 1 x (shr_z x 2)
by_2 (pos a) = record { low = omega (arith, ints); high = omega (arith, ints) }
by_2 (negsuc a) = record { low = omega (arith, ints); high = omega (arith, ints) }

pub by_4 : (x : ℤ) → IsShifted 3 x (shr_z x 4)
by_4 (pos a) = record { low = omega (arith, ints); high = omega (arith, ints) }
by_4 (negsuc a) = record { low = omega (arith, ints); high = omega (arith, ints) }

pub by_64 : (x : ℤ) → IsShifted 63 x (shr_z x 64)
by_64 (pos a) = record { low = omega (arith, ints); high = omega (arith, ints) }
by_64 (negsuc a) = record { low = omega (arith, ints); high = omega (arith, ints) }

pub halves_within : (m : ℕ) (x : ℤ) → Within (2 * m) x → Within m (rounded 0 x)
halves_within m x w =
    let s = by_2 (x +ℤ pos 1) in
    record { low = omega (arith, ints); high = omega (arith, ints) }

pub sixty_fourths_within : (m : ℕ) (x : ℤ) → Within (64 * m) x → Within m (rounded 5 x)
sixty_fourths_within m x w =
    let s = by_64 (x +ℤ pos 32) in
    record { low = omega (arith, ints); high = omega (arith, ints) }

-- each item of ys is f of that of xs
pub mapped_within : (k m n : ℕ) (f : ℤ → ℤ) → ((x : ℤ) → Within m x → Within n (f x)) → (xs ys : List ℤ) → ((p : ℕ) → p < k → item ys p ≡ f (item xs p)) → AllWithin k m xs → AllWithin k n ys
mapped_within k m n f step xs ys is small p h = subst (λ (z : ℤ). Within n z) (sym (is p h)) (step _ (small p h))

pub mapped_listed : (k : ℕ) (f : ℤ → ℤ) (g : ℕ → ℤ) (xs ys : List ℤ) → length ys ≡ k → ((p : ℕ) → p < k → item ys p ≡ f (item xs p)) → ((p : ℕ) → p < k → item xs p ≡ g p) → ys ≡ listed k (λ p. f (g p))
mapped_listed k f g xs ys long is are = is_listed k (λ p. f (g p)) ys long (λ p h. is p h ∙ ap f (are p h))
