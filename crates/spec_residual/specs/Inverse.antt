-- The inverse transforms: each row, then each column, then the rounding by 64.
use Rattle.std.specs.Prelude.{ℕ, ℤ, ◌+ℤ◌, ◌-ℤ◌, List, [], ◌∷◌, ◌+◌, ◌*◌, ◌/◌, ◌%◌}
use Rattle.std.specs.Int.{int_shr}
use Rattle.spec_residual.specs.Blocks.{item, listed, rounded}

abbrev pub half : ℤ → ℤ
half x = int_shr x 1

abbrev pub quarter : ℤ → ℤ
quarter x = int_shr x 2

-- ---- the one-dimensional transform of four values (ITU-T H.264, clause 8.5.12.2)

-- f0 to f3 from e0 to e3
abbrev pub last4 : ℤ → ℤ → ℤ → ℤ → List ℤ
last4 e0 e1 e2 e3 = (e0 +ℤ e3) ∷ (e1 +ℤ e2) ∷ (e1 -ℤ e2) ∷ (e0 -ℤ e3) ∷ []

abbrev pub line4 : ℤ → ℤ → ℤ → ℤ → List ℤ
line4 d0 d1 d2 d3 = last4 (d0 +ℤ d2) (d0 -ℤ d2) (half d1 -ℤ d3) (d1 +ℤ half d3)

-- ---- the one-dimensional transform of eight values (clause 8.5.13.2)

-- g0 to g7 from f0 to f7
abbrev pub ends8 : ℤ → ℤ → ℤ → ℤ → ℤ → ℤ → ℤ → ℤ → List ℤ
ends8 f0 f1 f2 f3 f4 f5 f6 f7 =
    (f0 +ℤ f7) ∷ (f2 +ℤ f5) ∷ (f4 +ℤ f3) ∷ (f6 +ℤ f1) ∷ (f6 -ℤ f1) ∷ (f4 -ℤ f3) ∷ (f2 -ℤ f5) ∷ (f0 -ℤ f7) ∷ []

-- f0 to f7 from e0 to e7
abbrev pub last8 : ℤ → ℤ → ℤ → ℤ → ℤ → ℤ → ℤ → ℤ → List ℤ
last8 e0 e1 e2 e3 e4 e5 e6 e7 =
    ends8 (e0 +ℤ e6) (e1 +ℤ quarter e7) (e2 +ℤ e4) (e3 +ℤ quarter e5) (e2 -ℤ e4) (quarter e3 -ℤ e5) (e0 -ℤ e6) (e7 -ℤ quarter e1)

abbrev pub odd1 : ℤ → ℤ → ℤ → ℤ
odd1 d3 d5 d7 = d5 -ℤ d3 -ℤ d7 -ℤ half d7

abbrev pub odd3 : ℤ → ℤ → ℤ → ℤ
odd3 d1 d3 d7 = d1 +ℤ d7 -ℤ d3 -ℤ half d3

abbrev pub odd5 : ℤ → ℤ → ℤ → ℤ
odd5 d1 d5 d7 = d7 -ℤ d1 +ℤ d5 +ℤ half d5

abbrev pub odd7 : ℤ → ℤ → ℤ → ℤ
odd7 d1 d3 d5 = d3 +ℤ d5 +ℤ d1 +ℤ half d1

abbrev pub line8 : ℤ → ℤ → ℤ → ℤ → ℤ → ℤ → ℤ → ℤ → List ℤ
line8 d0 d1 d2 d3 d4 d5 d6 d7 =
    last8 (d0 +ℤ d4) (odd1 d3 d5 d7) (d0 -ℤ d4) (odd3 d1 d3 d7) (half d2 -ℤ d6) (odd5 d1 d5 d7) (d2 +ℤ half d6) (odd7 d1 d3 d5)

-- ---- both dimensions: the matrix d of coefficients, each row of it transformed, and then each column of that

abbrev pub row4 : List ℤ → ℕ → ℕ → ℤ
row4 d i j = item (line4 (item d (4 * i)) (item d (4 * i + 1)) (item d (4 * i + 2)) (item d (4 * i + 3))) j

abbrev pub column4 : List ℤ → ℕ → ℕ → ℤ
column4 d i j = item (line4 (row4 d 0 j) (row4 d 1 j) (row4 d 2 j) (row4 d 3 j)) i

unfoldable pub inverse4_of : List ℤ → List ℤ
inverse4_of d = listed 16 (λ p. rounded 5 (column4 d (p / 4) (p % 4)))

abbrev pub row8 : List ℤ → ℕ → ℕ → ℤ
row8 d i j =
    item (line8 (item d (8 * i)) (item d (8 * i + 1)) (item d (8 * i + 2)) (item d (8 * i + 3)) (item d (8 * i + 4)) (item d (8 * i + 5)) (item d (8 * i + 6)) (item d (8 * i + 7))) j

abbrev pub column8 : List ℤ → ℕ → ℕ → ℤ
column8 d i j =
    item (line8 (row8 d 0 j) (row8 d 1 j) (row8 d 2 j) (row8 d 3 j) (row8 d 4 j) (row8 d 5 j) (row8 d 6 j) (row8 d 7 j)) i

unfoldable pub inverse8_of : List ℤ → List ℤ
inverse8_of d = listed 64 (λ p. rounded 5 (column8 d (p / 8) (p % 8)))
