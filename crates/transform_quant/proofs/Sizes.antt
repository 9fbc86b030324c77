-- How large a line of a transform can be.
use Rattle.std.proofs.Common.{◌≡◌, ℕ, zero, suc, ℤ, ◌+◌, ◌*◌, ◌/◌, ◌%◌, ◌<◌, ◌≤◌, List, sym, arith, subst}
use Rattle.std.proofs.lemmas.Int.{ints}
use Rattle.spec_basics.specs.Bounds.{Within}
use Rattle.spec_residual.specs.Blocks.{AllWithin, item}
use Rattle.transform_quant.specs.Lines.{row4_by, Turned4, forward4_line, hadamard4_line}

-- from items of at most m the lines of g are at most n
abbrev pub Grows4 : (ℤ → ℤ → ℤ → ℤ → List ℤ) → ℕ → ℕ → Type 0
Grows4 g m n = (x0 x1 x2 x3 : ℤ) → Within m x0 → Within m x1 → Within m x2 → Within m x3 → (b : ℕ) → b < 4 → Within n (item (g x0 x1 x2 x3) b)

pub pass4_within : (g : ℤ → ℤ → ℤ → ℤ → List ℤ) (m n : ℕ) → Grows4 g m n → (x t : List ℤ) → AllWithin 16 m x → Turned4 (row4_by g x) t → AllWithin 16 n t
pass4_within g m n grows x t small turned p q =
    let in_a : p % 4 < 4 = omega arith in
    let in_b : p / 4 < 4 = omega arith in
    let at : 4 * (p / 4) + p % 4 ≡ p = omega arith in
    let here = grows _ _ _ _ (small (4 * (p % 4)) (omega arith)) (small (4 * (p % 4) + 1) (omega arith)) (small (4 * (p % 4) + 2) (omega arith)) (small (4 * (p % 4) + 3) (omega arith)) (p / 4) in_b in
    subst (λ (n' : ℕ). Within n (item t n')) at (subst (λ (z : ℤ). Within n z) (sym (turned (p % 4) (p / 4) in_a in_b)) here)

pub forward4_grows : (m : ℕ) → Grows4 forward4_line m (6 * m)
forward4_grows m x0 x1 x2 x3 h0 h1 h2 h3 zero h = record { low = omega (arith, ints); high = omega (arith, ints) }
forward4_grows m x0 x1 x2 x3 h0 h1 h2 h3 (suc zero) h = record { low = omega (arith, ints); high = omega (arith, ints) }
forward4_grows m x0 x1 x2 x3 h0 h1 h2 h3 (suc (suc zero)) h = record { low = omega (arith, ints); high = omega (arith, ints) }
forward4_grows m x0 x1 x2 x3 h0 h1 h2 h3 (suc (suc (suc zero))) h = record { low = omega (arith, ints); high = omega (arith, ints) }
forward4_grows m x0 x1 x2 x3 h0 h1 h2 h3 (suc (suc (suc (suc b)))) h = absurd (omega arith)

-- the first item of a line is a plain sum
pub forward4_first : (m : ℕ) (x0 x1 x2 x3 : ℤ) → Within m x0 → Within m x1 → Within m x2 → Within m x3 → Within (4 * m) (item (forward4_line x0 x1 x2 x3) 0)
forward4_first m x0 x1 x2 x3 h0 h1 h2 h3 = record { low = omega (arith, ints); high = omega (arith, ints) }

pub hadamard4_grows : (m : ℕ) → Grows4 hadamard4_line m (4 * m)
hadamard4_grows m x0 x1 x2 x3 h0 h1 h2 h3 zero h = record { low = omega (arith, ints); high = omega (arith, ints) }
hadamard4_grows m x0 x1 x2 x3 h0 h1 h2 h3 (suc zero) h = record { low = omega (arith, ints); high = omega (arith, ints) }
hadamard4_grows m x0 x1 x2 x3 h0 h1 h2 h3 (suc (suc zero)) h = record { low = omega (arith, ints); high = omega (arith, ints) }
hadamard4_grows m x0 x1 x2 x3 h0 h1 h2 h3 (suc (suc (suc zero))) h = record { low = omega (arith, ints); high = omega (arith, ints) }
hadamard4_grows m x0 x1 x2 x3 h0 h1 h2 h3 (suc (suc (suc (suc b)))) h = absurd (omega arith)

pub within_more : (m n : ℕ) (x : ℤ) → m ≤ n → Within m x → Within n x
within_more m n x h w = record { low = omega (arith, ints); high = omega (arith, ints) }

pub all_within_more : (k m n : ℕ) (xs : List ℤ) → m ≤ n → AllWithin k m xs → AllWithin k n xs
all_within_more k m n xs h w p q = within_more m n _ h (w p q)

pub all_within_same : (k m : ℕ) (xs ys : List ℤ) → xs ≡ ys → AllWithin k m xs → AllWithin k m ys
all_within_same k m xs ys e w = subst (λ (l : List ℤ). AllWithin k m l) e w
