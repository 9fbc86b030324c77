-- Two passes of the inverse transform of eight columns.
use Rattle.std.proofs.Common.{◌≡◌, ℕ, ℤ, ◌+◌, ◌*◌, ◌/◌, ◌%◌, ◌<◌, List, length, ap, ◌∙◌, arith, lit<}
use Rattle.spec_residual.specs.Blocks.{AllWithin, item, rounded}
use Rattle.spec_residual.specs.Inverse.{line8, row8, column8, inverse8_of}
use Rattle.transform_quant.specs.Lines.{row8_by, Turned8}
use Rattle.transform_quant.proofs.Eight.{same8}
use Rattle.transform_quant.proofs.Shifts.{mapped_listed}
use Rattle.transform_quant.proofs.SizesEight.{pass8_within, line8_grows}

columns_are : (x t out : List ℤ) → Turned8 (row8_by line8 x) t → Turned8 (row8_by line8 t) out → (p : ℕ) → p < 64 → item out p ≡ column8 x (p / 8) (p % 8)
columns_are x t out first second p q =
    let in_a : p % 8 < 8 = omega arith in
    let in_b : p / 8 < 8 = omega arith in
    let e0 : item t (8 * (p % 8)) ≡ row8 x 0 (p % 8) = ap (λ (n : ℕ). item t n) (omega arith) ∙ first 0 (p % 8) (lit< tt) in_a in
    let e1 : item t (8 * (p % 8) + 1) ≡ row8 x 1 (p % 8) = first 1 (p % 8) (lit< tt) in_a in
    let e2 : item t (8 * (p % 8) + 2) ≡ row8 x 2 (p % 8) = first 2 (p % 8) (lit< tt) in_a in
    let e3 : item t (8 * (p % 8) + 3) ≡ row8 x 3 (p % 8) = first 3 (p % 8) (lit< tt) in_a in
    let e4 : item t (8 * (p % 8) + 4) ≡ row8 x 4 (p % 8) = first 4 (p % 8) (lit< tt) in_a in
    let e5 : item t (8 * (p % 8) + 5) ≡ row8 x 5 (p % 8) = first 5 (p % 8) (lit< tt) in_a in
    let e6 : item t (8 * (p % 8) + 6) ≡ row8 x 6 (p % 8) = first 6 (p % 8) (lit< tt) in_a in
    let e7 : item t (8 * (p % 8) + 7) ≡ row8 x 7 (p % 8) = first 7 (p % 8) (lit< tt) in_a in
    let at : p ≡ 8 * (p / 8) + p % 8 = omega arith in
    ap (λ (n : ℕ). item out n) at ∙ second (p % 8) (p / 8) in_a in_b ∙ ap (λ (l : List ℤ). item l (p / 8)) (same8 line8 _ _ _ _ _ _ _ _ _ _ _ _ _ _ _ _ e0 e1 e2 e3 e4 e5 e6 e7)

pub inverse8_is : (x t y out : List ℤ) → Turned8 (row8_by line8 x) t → Turned8 (row8_by line8 t) y → length out ≡ 64 → ((p : ℕ) → p < 64 → item out p ≡ rounded 5 (item y p)) → out ≡ inverse8_of x
unfolding inverse8_of
inverse8_is x t y out first second long is =
    mapped_listed 64 (rounded 5) (λ p. column8 x (p / 8) (p % 8)) y out long is (columns_are x t y first second)

pub inverse8_small : (m : ℕ) (x t : List ℤ) → AllWithin 64 m x → Turned8 (row8_by line8 x) t → AllWithin 64 (16 * m + 7) t
inverse8_small m x t small turned = pass8_within line8 m (16 * m + 7) (line8_grows m) x t small turned
