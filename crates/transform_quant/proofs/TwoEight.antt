-- Two passes of a linear transform over a block of eight columns are C·X·Cᵀ.
use Rattle.std.proofs.Common.{◌≡◌, ℕ, zero, suc, ℤ, ◌+◌, ◌*◌, ◌/◌, ◌%◌, ◌<◌, ◌*ℤ◌, List, [], ◌∷◌, ap, ◌∙◌, arith, lit<}
use Rattle.std.proofs.lemmas.Int.{ints}
use Rattle.enc_tables.specs.declared.transform.TheConstants.{FORWARD8}
use Rattle.spec_residual.specs.Blocks.{item, block, product, transposed, transformed, rows_of}
use Rattle.spec_basics.specs.Sums.{int_sum_below}
use Rattle.transform_quant.specs.Lines.{row8_by, Turned8, forward8_line}
use Rattle.transform_quant.proofs.Eight.{same8}

abbrev pick8 : ℤ → ℤ → ℤ → ℤ → ℤ → ℤ → ℤ → ℤ → ℕ → ℤ
pick8 x0 x1 x2 x3 x4 x5 x6 x7 k = item (x0 ∷ x1 ∷ x2 ∷ x3 ∷ x4 ∷ x5 ∷ x6 ∷ x7 ∷ []) k

-- the transform g is the product with the rows of c, from the left and from the right
abbrev pub FromLeft8 : (ℕ → ℕ → ℤ) → (ℤ → ℤ → ℤ → ℤ → ℤ → ℤ → ℤ → ℤ → List ℤ) → Type 0
FromLeft8 c g = (x0 x1 x2 x3 x4 x5 x6 x7 : ℤ) (b : ℕ) → b < 8 → item (g x0 x1 x2 x3 x4 x5 x6 x7) b ≡ int_sum_below 8 (λ k. c b k *ℤ pick8 x0 x1 x2 x3 x4 x5 x6 x7 k)

abbrev pub FromRight8 : (ℕ → ℕ → ℤ) → (ℤ → ℤ → ℤ → ℤ → ℤ → ℤ → ℤ → ℤ → List ℤ) → Type 0
FromRight8 c g = (x0 x1 x2 x3 x4 x5 x6 x7 : ℤ) (b : ℕ) → b < 8 → item (g x0 x1 x2 x3 x4 x5 x6 x7) b ≡ int_sum_below 8 (λ k. pick8 x0 x1 x2 x3 x4 x5 x6 x7 k *ℤ c b k)

pub two_passes8 : (c : ℕ → ℕ → ℤ) (g : ℤ → ℤ → ℤ → ℤ → ℤ → ℤ → ℤ → ℤ → List ℤ) → FromLeft8 c g → FromRight8 c g → (x t out : List ℤ) → Turned8 (row8_by g x) t → Turned8 (row8_by g t) out → (p : ℕ) → p < 64 → item out p ≡ transformed 8 c (block 8 x) (p / 8) (p % 8)
two_passes8 c g left right x t out first second p q =
    let in_a : p % 8 < 8 = omega arith in
    let in_b : p / 8 < 8 = omega arith in
    let y = λ (k : ℕ). product 8 (block 8 x) (transposed c) k (p % 8) in
    let e0 : item t (8 * (p % 8)) ≡ y 0 = ap (λ (n : ℕ). item t n) (omega arith) ∙ first 0 (p % 8) (lit< tt) in_a ∙ right _ _ _ _ _ _ _ _ (p % 8) in_a in
    let e1 : item t (8 * (p % 8) + 1) ≡ y 1 = first 1 (p % 8) (lit< tt) in_a ∙ right _ _ _ _ _ _ _ _ (p % 8) in_a in
    let e2 : item t (8 * (p % 8) + 2) ≡ y 2 = first 2 (p % 8) (lit< tt) in_a ∙ right _ _ _ _ _ _ _ _ (p % 8) in_a in
    let e3 : item t (8 * (p % 8) + 3) ≡ y 3 = first 3 (p % 8) (lit< tt) in_a ∙ right _ _ _ _ _ _ _ _ (p % 8) in_a in
    let e4 : item t (8 * (p % 8) + 4) ≡ y 4 = first 4 (p % 8) (lit< tt) in_a ∙ right _ _ _ _ _ _ _ _ (p % 8) in_a in
    let e5 : item t (8 * (p % 8) + 5) ≡ y 5 = first 5 (p % 8) (lit< tt) in_a ∙ right _ _ _ _ _ _ _ _ (p % 8) in_a in
    let e6 : item t (8 * (p % 8) + 6) ≡ y 6 = first 6 (p % 8) (lit< tt) in_a ∙ right _ _ _ _ _ _ _ _ (p % 8) in_a in
    let e7 : item t (8 * (p % 8) + 7) ≡ y 7 = first 7 (p % 8) (lit< tt) in_a ∙ right _ _ _ _ _ _ _ _ (p % 8) in_a in
    let at : p ≡ 8 * (p / 8) + p % 8 = omega arith in
    ap (λ (n : ℕ). item out n) at ∙ second (p % 8) (p / 8) in_a in_b ∙ ap (λ (l : List ℤ). item l (p / 8)) (same8 g _ _ _ _ _ _ _ _ _ _ _ _ _ _ _ _ e0 e1 e2 e3 e4 e5 e6 e7) ∙ left (y 0) (y 1) (y 2) (y 3) (y 4) (y 5) (y 6) (y 7) (p / 8) in_b

pub forward8_left : FromLeft8 (rows_of FORWARD8) forward8_line
forward8_left x0 x1 x2 x3 x4 x5 x6 x7 zero h = omega (arith, ints)
forward8_left x0 x1 x2 x3 x4 x5 x6 x7 (suc zero) h = omega (arith, ints)
forward8_left x0 x1 x2 x3 x4 x5 x6 x7 (suc (suc zero)) h = omega (arith, ints)
forward8_left x0 x1 x2 x3 x4 x5 x6 x7 (suc (suc (suc zero))) h = omega (arith, ints)
forward8_left x0 x1 x2 x3 x4 x5 x6 x7 (suc (suc (suc (suc zero)))) h = omega (arith, ints)
forward8_left x0 x1 x2 x3 x4 x5 x6 x7 (suc (suc (suc (suc (suc zero))))) h = omega (arith, ints)
forward8_left x0 x1 x2 x3 x4 x5 x6 x7 (suc (suc (suc (suc (suc (suc zero)))))) h = omega (arith, ints)
forward8_left x0 x1 x2 x3 x4 x5 x6 x7 (suc (suc (suc (suc (suc (suc (suc zero))))))) h = omega (arith, ints)
forward8_left x0 x1 x2 x3 x4 x5 x6 x7 (suc (suc (suc (suc (suc (suc (suc (suc b)))))))) h = absurd (omega arith)

pub forward8_right : FromRight8 (rows_of FORWARD8) forward8_line
forward8_right x0 x1 x2 x3 x4 x5 x6 x7 zero h = omega (arith, ints)
forward8_right x0 x1 x2 x3 x4 x5 x6 x7 (suc zero) h = omega (arith, ints)
forward8_right x0 x1 x2 x3 x4 x5 x6 x7 (suc (suc zero)) h = omega (arith, ints)
forward8_right x0 x1 x2 x3 x4 x5 x6 x7 (suc (suc (suc zero))) h = omega (arith, ints)
forward8_right x0 x1 x2 x3 x4 x5 x6 x7 (suc (suc (suc (suc zero)))) h = omega (arith, ints)
forward8_right x0 x1 x2 x3 x4 x5 x6 x7 (suc (suc (suc (suc (suc zero))))) h = omega (arith, ints)
forward8_right x0 x1 x2 x3 x4 x5 x6 x7 (suc (suc (suc (suc (suc (suc zero)))))) h = omega (arith, ints)
forward8_right x0 x1 x2 x3 x4 x5 x6 x7 (suc (suc (suc (suc (suc (suc (suc zero))))))) h = omega (arith, ints)
forward8_right x0 x1 x2 x3 x4 x5 x6 x7 (suc (suc (suc (suc (suc (suc (suc (suc b)))))))) h = absurd (omega arith)
