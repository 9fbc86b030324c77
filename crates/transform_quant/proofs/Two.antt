-- Two passes of a linear transform over a block of four columns are C·X·Cᵀ.
use Rattle.std.proofs.Common.{◌≡◌, ℕ, zero, suc, ℤ, ◌+◌, ◌*◌, ◌/◌, ◌%◌, ◌<◌, ◌*ℤ◌, List, [], ◌∷◌, ap, ◌∙◌, arith, lit<}
use Rattle.std.proofs.lemmas.Int.{ints}
use Rattle.enc_tables.specs.declared.transform.TheConstants.{FORWARD4, HADAMARD4}
use Rattle.spec_residual.specs.Blocks.{item, block, product, transposed, transformed, rows_of}
use Rattle.spec_basics.specs.Sums.{int_sum_below}
use Rattle.transform_quant.specs.Lines.{row4_by, Turned4, forward4_line, hadamard4_line}
use Rattle.transform_quant.proofs.Columns.{same4}

abbrev pick4 : ℤ → ℤ → ℤ → ℤ → ℕ → ℤ
pick4 x0 x1 x2 x3 k = item (x0 ∷ x1 ∷ x2 ∷ x3 ∷ []) k

-- the transform g is the product with the rows of c, from the left and from the right
abbrev pub FromLeft4 : (ℕ → ℕ → ℤ) → (ℤ → ℤ → ℤ → ℤ → List ℤ) → Type 0
FromLeft4 c g = (x0 x1 x2 x3 : ℤ) (b : ℕ) → b < 4 → item (g x0 x1 x2 x3) b ≡ int_sum_below 4 (λ k. c b k *ℤ pick4 x0 x1 x2 x3 k)

abbrev pub FromRight4 : (ℕ → ℕ → ℤ) → (ℤ → ℤ → ℤ → ℤ → List ℤ) → Type 0
FromRight4 c g = (x0 x1 x2 x3 : ℤ) (b : ℕ) → b < 4 → item (g x0 x1 x2 x3) b ≡ int_sum_below 4 (λ k. pick4 x0 x1 x2 x3 k *ℤ c b k)

pub two_passes4 : (c : ℕ → ℕ → ℤ) (g : ℤ → ℤ → ℤ → ℤ → List ℤ) → FromLeft4 c g → FromRight4 c g → (x t out : List ℤ) → Turned4 (row4_by g x) t → Turned4 (row4_by g t) out → (p : ℕ) → p < 16 → item out p ≡ transformed 4 c (block 4 x) (p / 4) (p % 4)
two_passes4 c g left right x t out first second p q =
    let a : ℕ = p % 4 in
    let b : ℕ = p / 4 in
    let in_a : p % 4 < 4 = omega arith in
    let in_b : p / 4 < 4 = omega arith in
    let y = λ (k : ℕ). product 4 (block 4 x) (transposed c) k (p % 4) in
    let e0 : item t (4 * (p % 4)) ≡ y 0 = ap (λ (n : ℕ). item t n) (omega arith) ∙ first 0 (p % 4) (lit< tt) in_a ∙ right _ _ _ _ (p % 4) in_a in
    let e1 : item t (4 * (p % 4) + 1) ≡ y 1 = first 1 (p % 4) (lit< tt) in_a ∙ right _ _ _ _ (p % 4) in_a in
    let e2 : item t (4 * (p % 4) + 2) ≡ y 2 = first 2 (p % 4) (lit< tt) in_a ∙ right _ _ _ _ (p % 4) in_a in
    let e3 : item t (4 * (p % 4) + 3) ≡ y 3 = first 3 (p % 4) (lit< tt) in_a ∙ right _ _ _ _ (p % 4) in_a in
    let at : p ≡ 4 * (p / 4) + p % 4 = omega arith in
    ap (λ (n : ℕ). item out n) at ∙ second (p % 4) (p / 4) in_a in_b ∙ ap (λ (l : List ℤ). item l (p / 4)) (same4 g _ _ _ _ _ _ _ _ e0 e1 e2 e3) ∙ left (y 0) (y 1) (y 2) (y 3) (p / 4) in_b

pub forward4_left : FromLeft4 (rows_of FORWARD4) forward4_line
forward4_left x0 x1 x2 x3 zero h = omega (arith, ints)
forward4_left x0 x1 x2 x3 (suc zero) h = omega (arith, ints)
forward4_left x0 x1 x2 x3 (suc (suc zero)) h = omega (arith, ints)
forward4_left x0 x1 x2 x3 (suc (suc (suc zero))) h = omega (arith, ints)
forward4_left x0 x1 x2 x3 (suc (suc (suc (suc b)))) h = absurd (omega arith)

pub forward4_right : FromRight4 (rows_of FORWARD4) forward4_line
forward4_right x0 x1 x2 x3 zero h = omega (arith, ints)
forward4_right x0 x1 x2 x3 (suc zero) h = omega (arith, ints)
forward4_right x0 x1 x2 x3 (suc (suc zero)) h = omega (arith, ints)
forward4_right x0 x1 x2 x3 (suc (suc (suc zero))) h = omega (arith, ints)
forward4_right x0 x1 x2 x3 (suc (suc (suc (suc b)))) h = absurd (omega arith)

pub hadamard4_left : FromLeft4 (rows_of HADAMARD4) hadamard4_line
hadamard4_left x0 x1 x2 x3 zero h = omega (arith, ints)
hadamard4_left x0 x1 x2 x3 (suc zero) h = omega (arith, ints)
hadamard4_left x0 x1 x2 x3 (suc (suc zero)) h = omega (arith, ints)
hadamard4_left x0 x1 x2 x3 (suc (suc (suc zero))) h = omega (arith, ints)
hadamard4_left x0 x1 x2 x3 (suc (suc (suc (suc b)))) h = absurd (omega arith)

pub hadamard4_right : FromRight4 (rows_of HADAMARD4) hadamard4_line
hadamard4_right x0 x1 x2 x3 zero h = omega (arith, ints)
hadamard4_right x0 x1 x2 x3 (suc zero) h = omega (arith, ints)
hadamard4_right x0 x1 x2 x3 (suc (suc zero)) h = omega (arith, ints)
hadamard4_right x0 x1 x2 x3 (suc (suc (suc zero))) h = omega (arith, ints)
hadamard4_right x0 x1 x2 x3 (suc (suc (suc (suc b)))) h = absurd (omega arith)
