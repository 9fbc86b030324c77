-- A bound on the items of a list of literals, by computing.
use Rattle.std.proofs.Common.{ℕ, zero, suc, ℤ, pos, negsuc, ◌≤◌, Bool, true, ◌&&◌, leb, T, List, [], ◌∷◌, arith}
use Rattle.std.proofs.Math.Dec.{leb→le}
use Rattle.std.proofs.lemmas.Int.{ints}
use lib.Ieee.Fits.{and_l, and_r}
use Rattle.spec_basics.specs.Bounds.{Within}
use Rattle.spec_residual.specs.Blocks.{AllWithin, item}

abbrev pub size_of : ℤ → ℕ
size_of (pos n) = n
size_of (negsuc n) = suc n

abbrev pub all_small : ℕ → List ℤ → Bool
all_small b [] = true
all_small b (x ∷ xs) = leb (size_of x) b && all_small b xs

within_by_size : (b : ℕ) (x : ℤ) → size_of x ≤ b → Within b x
within_by_size b (pos n) h = record { low = omega (arith, ints); high = omega (arith, ints) }
within_by_size b (negsuc n) h = record { low = omega (arith, ints); high = omega (arith, ints) }

item_by_test : (b : ℕ) (xs : List ℤ) → T (all_small b xs) → (p : ℕ) → Within b (item xs p)
item_by_test b [] h p = within_by_size b (pos 0) (omega arith)
item_by_test b (x ∷ xs) h zero = within_by_size b x (leb→le (size_of x) b (and_l (leb (size_of x) b) (all_small b xs) h))
item_by_test b (x ∷ xs) h (suc p) = item_by_test b xs (and_r (leb (size_of x) b) (all_small b xs) h) p

pub within_by_test : (n b : ℕ) (xs : List ℤ) → T (all_small b xs) → AllWithin n b xs
within_by_test n b xs h p q = item_by_test b xs h p
