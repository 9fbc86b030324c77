-- Two passes of the inverse transform of four columns.
use Rattle.std.proofs.Common.{◌≡◌, ℕ, zero, suc, ℤ, ◌+◌, ◌*◌, ◌/◌, ◌%◌, ◌<◌, List, length, ap, ◌∙◌, arith, lit<}
use Rattle.std.proofs.lemmas.Int.{ints}
use Rattle.spec_basics.specs.Bounds.{Within}
use Rattle.spec_residual.specs.Blocks.{AllWithin, item, rounded}
use Rattle.spec_residual.specs.Inverse.{line4, row4, column4, inverse4_of}
use Rattle.transform_quant.specs.Lines.{row4_by, Turned4}
use Rattle.transform_quant.proofs.Columns.{same4}
use Rattle.transform_quant.proofs.Shifts.{mapped_listed, by_2}
use Rattle.transform_quant.proofs.Sizes.{pass4_within}

columns_are : (x t out : List ℤ) → Turned4 (row4_by line4 x) t → Turned4 (row4_by line4 t) out → (p : ℕ) → p < 16 → item out p ≡ column4 x (p / 4) (p % 4)
columns_are x t out first second p q =
    let in_a : p % 4 < 4 = omega arith in
    let in_b : p / 4 < 4 = omega arith in
    let e0 : item t (4 * (p % 4)) ≡ row4 x 0 (p % 4) = ap (λ (n : ℕ). item t n) (omega arith) ∙ first 0 (p % 4) (lit< tt) in_a in
    let e1 : item t (4 * (p % 4) + 1) ≡ row4 x 1 (p % 4) = first 1 (p % 4) (lit< tt) in_a in
    let e2 : item t (4 * (p % 4) + 2) ≡ row4 x 2 (p % 4) = first 2 (p % 4) (lit< tt) in_a in
    let e3 : item t (4 * (p % 4) + 3) ≡ row4 x 3 (p % 4) = first 3 (p % 4) (lit< tt) in_a in
    let at : p ≡ 4 * (p / 4) + p % 4 = omega arith in
    ap (λ (n : ℕ). item out n) at ∙ second (p % 4) (p / 4) in_a in_b ∙ ap (λ (l : List ℤ). item l (p / 4)) (same4 line4 _ _ _ _ _ _ _ _ e0 e1 e2 e3)

pub inverse4_is : (x t y out : List ℤ) → Turned4 (row4_by line4 x) t → Turned4 (row4_by line4 t) y → length out ≡ 16 → ((p : ℕ) → p < 16 → item out p ≡ rounded 5 (item y p)) → out ≡ inverse4_of x
unfolding inverse4_of
inverse4_is x t y out first second long is =
    mapped_listed 16 (rounded 5) (λ p. column4 x (p / 4) (p % 4)) y out long is (columns_are x t y first second)

line4_grows : (m : ℕ) (x0 x1 x2 x3 : ℤ) → Within m x0 → Within m x1 → Within m x2 → Within m x3 → (b : ℕ) → b < 4 → Within (4 * m + 2) (item (line4 x0 x1 x2 x3) b)
line4_grows m x0 x1 x2 x3 h0 h1 h2 h3 zero h = let s = by_2 x3 in record { low = omega (arith, ints); high = omega (arith, ints) }
line4_grows m x0 x1 x2 x3 h0 h1 h2 h3 (suc zero) h = let s = by_2 x1 in record { low = omega (arith, ints); high = omega (arith, ints) }
line4_grows m x0 x1 x2 x3 h0 h1 h2 h3 (suc (suc zero)) h = let s = by_2 x1 in record { low = omega (arith, ints); high = omega (arith, ints) }
line4_grows m x0 x1 x2 x3 h0 h1 h2 h3 (suc (suc (suc zero))) h = let s = by_2 x3 in record { low = omega (arith, ints); high = omega (arith, ints) }
line4_grows m x0 x1 x2 x3 h0 h1 h2 h3 (suc (suc (suc (suc b)))) h = absurd (omega arith)

pub inverse4_small : (m : ℕ) (x t : List ℤ) → AllWithin 16 m x → Turned4 (row4_by line4 x) t → AllWithin 16 (4 * m + 2) t
inverse4_small m x t small turned = pass4_within line4 m (4 * m + 2) (line4_grows m) x t small turned
