-- The one-dimensional transforms as sums, and blocks whose lines were written as columns.
use Rattle.std.specs.Prelude.{ℕ, ℤ, pos, ◌≡◌, ◌+ℤ◌, ◌-ℤ◌, ◌*ℤ◌, List, [], ◌∷◌, ◌<◌, ◌+◌, ◌*◌}
use Rattle.spec_residual.specs.Blocks.{item}

-- item j of the transform g of row i of a block of four columns
abbrev pub row4_by : (ℤ → ℤ → ℤ → ℤ → List ℤ) → List ℤ → ℕ → ℕ → ℤ
row4_by g x i j = item (g (item x (4 * i)) (item x (4 * i + 1)) (item x (4 * i + 2)) (item x (4 * i + 3))) j

-- the four columns of ys are the four lines of f
abbrev pub Turned4 : (ℕ → ℕ → ℤ) → List ℤ → Type 0
Turned4 f ys = (a b : ℕ) → a < 4 → b < 4 → item ys (4 * b + a) ≡ f a b

abbrev pub forward4_line : ℤ → ℤ → ℤ → ℤ → List ℤ
forward4_line x0 x1 x2 x3 =
    ((x0 +ℤ x3) +ℤ (x1 +ℤ x2)) ∷ ((pos 2 *ℤ (x0 -ℤ x3)) +ℤ (x1 -ℤ x2)) ∷ ((x0 +ℤ x3) -ℤ (x1 +ℤ x2)) ∷ ((x0 -ℤ x3) -ℤ (pos 2 *ℤ (x1 -ℤ x2))) ∷ []

abbrev pub hadamard4_line : ℤ → ℤ → ℤ → ℤ → List ℤ
hadamard4_line x0 x1 x2 x3 =
    ((x0 +ℤ x1) +ℤ (x2 +ℤ x3)) ∷ ((x0 +ℤ x1) -ℤ (x2 +ℤ x3)) ∷ ((x0 -ℤ x1) -ℤ (x2 -ℤ x3)) ∷ ((x0 -ℤ x1) +ℤ (x2 -ℤ x3)) ∷ []

abbrev pub hadamard2_sums : ℤ → ℤ → ℤ → ℤ → List ℤ
hadamard2_sums x0 x1 x2 x3 =
    ((x0 +ℤ x1) +ℤ (x2 +ℤ x3)) ∷ ((x0 -ℤ x1) +ℤ (x2 -ℤ x3)) ∷ ((x0 +ℤ x1) -ℤ (x2 +ℤ x3)) ∷ ((x0 -ℤ x1) -ℤ (x2 -ℤ x3)) ∷ []

-- item j of the transform g of row i of a block of eight columns
abbrev pub row8_by : (ℤ → ℤ → ℤ → ℤ → ℤ → ℤ → ℤ → ℤ → List ℤ) → List ℤ → ℕ → ℕ → ℤ
row8_by g x i j = item (g (item x (8 * i)) (item x (8 * i + 1)) (item x (8 * i + 2)) (item x (8 * i + 3)) (item x (8 * i + 4)) (item x (8 * i + 5)) (item x (8 * i + 6)) (item x (8 * i + 7))) j

-- the eight columns of ys are the eight lines of f
abbrev pub Turned8 : (ℕ → ℕ → ℤ) → List ℤ → Type 0
Turned8 f ys = (a b : ℕ) → a < 8 → b < 8 → item ys (8 * b + a) ≡ f a b

-- the eight sums of the forward transform from sums and differences of opposite items
abbrev pub row0_of : ℤ → ℤ → ℤ → ℤ → ℤ
row0_of s0 s1 s2 s3 = pos 8 *ℤ ((s0 +ℤ s3) +ℤ (s1 +ℤ s2))

abbrev pub row1_of : ℤ → ℤ → ℤ → ℤ → ℤ
row1_of d0 d1 d2 d3 = ((pos 12 *ℤ d0) +ℤ (pos 10 *ℤ d1)) +ℤ ((pos 6 *ℤ d2) +ℤ (pos 3 *ℤ d3))

abbrev pub row2_of : ℤ → ℤ → ℤ → ℤ → ℤ
row2_of s0 s1 s2 s3 = (pos 8 *ℤ (s0 -ℤ s3)) +ℤ (pos 4 *ℤ (s1 -ℤ s2))

abbrev pub row3_of : ℤ → ℤ → ℤ → ℤ → ℤ
row3_of d0 d1 d2 d3 = ((pos 10 *ℤ d0) -ℤ (pos 3 *ℤ d1)) -ℤ ((pos 12 *ℤ d2) +ℤ (pos 6 *ℤ d3))

abbrev pub row4_of : ℤ → ℤ → ℤ → ℤ → ℤ
row4_of s0 s1 s2 s3 = pos 8 *ℤ ((s0 +ℤ s3) -ℤ (s1 +ℤ s2))

abbrev pub row5_of : ℤ → ℤ → ℤ → ℤ → ℤ
row5_of d0 d1 d2 d3 = ((pos 6 *ℤ d0) -ℤ (pos 12 *ℤ d1)) +ℤ ((pos 3 *ℤ d2) +ℤ (pos 10 *ℤ d3))

abbrev pub row6_of : ℤ → ℤ → ℤ → ℤ → ℤ
row6_of s0 s1 s2 s3 = (pos 4 *ℤ (s0 -ℤ s3)) -ℤ (pos 8 *ℤ (s1 -ℤ s2))

abbrev pub row7_of : ℤ → ℤ → ℤ → ℤ → ℤ
row7_of d0 d1 d2 d3 = ((pos 3 *ℤ d0) -ℤ (pos 6 *ℤ d1)) +ℤ ((pos 10 *ℤ d2) -ℤ (pos 12 *ℤ d3))

abbrev pub parts8_of : ℤ → ℤ → ℤ → ℤ → ℤ → ℤ → ℤ → ℤ → List ℤ
parts8_of s0 s1 s2 s3 d0 d1 d2 d3 =
    row0_of s0 s1 s2 s3 ∷ row1_of d0 d1 d2 d3 ∷ row2_of s0 s1 s2 s3 ∷ row3_of d0 d1 d2 d3 ∷ row4_of s0 s1 s2 s3 ∷ row5_of d0 d1 d2 d3 ∷ row6_of s0 s1 s2 s3 ∷ row7_of d0 d1 d2 d3 ∷ []

abbrev pub forward8_line : ℤ → ℤ → ℤ → ℤ → ℤ → ℤ → ℤ → ℤ → List ℤ
forward8_line x0 x1 x2 x3 x4 x5 x6 x7 = parts8_of (x0 +ℤ x7) (x1 +ℤ x6) (x2 +ℤ x5) (x3 +ℤ x4) (x0 -ℤ x7) (x1 -ℤ x6) (x2 -ℤ x5) (x3 -ℤ x4)
