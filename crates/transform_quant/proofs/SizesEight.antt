-- How large a line of a transform of eight items can be.
use Rattle.std.proofs.Common.{◌≡◌, ℕ, zero, suc, ℤ, ◌+◌, ◌*◌, ◌/◌, ◌%◌, ◌<◌, ◌≤◌, ◌+ℤ◌, ◌-ℤ◌, List, sym, arith, subst}
use Rattle.std.proofs.lemmas.Int.{ints}
use Rattle.spec_basics.specs.Bounds.{Within}
use Rattle.spec_residual.specs.Blocks.{AllWithin, item}
use Rattle.spec_residual.specs.Inverse.{line8, ends8, last8, odd1, odd3, odd5, odd7, half, quarter}
use Rattle.transform_quant.specs.Lines.{row8_by, Turned8, forward8_line}
use Rattle.transform_quant.proofs.Shifts.{by_2, by_4}

-- from items of at most m the lines of g are at most n
abbrev pub Grows8 : (ℤ → ℤ → ℤ → ℤ → ℤ → ℤ → ℤ → ℤ → List ℤ) → ℕ → ℕ → Type 0
Grows8 g m n = (x0 x1 x2 x3 x4 x5 x6 x7 : ℤ) → Within m x0 → Within m x1 → Within m x2 → Within m x3 → Within m x4 → Within m x5 → Within m x6 → Within m x7 → (b : ℕ) → b < 8 → Within n (item (g x0 x1 x2 x3 x4 x5 x6 x7) b)

pub pass8_within : (g : ℤ → ℤ → ℤ → ℤ → ℤ → ℤ → ℤ → ℤ → List ℤ) (m n : ℕ) → Grows8 g m n → (x t : List ℤ) → AllWithin 64 m x → Turned8 (row8_by g x) t → AllWithin 64 n t
pass8_within g m n grows x t small turned p q =
    let in_a : p % 8 < 8 = omega arith in
    let in_b : p / 8 < 8 = omega arith in
    let at : 8 * (p / 8) + p % 8 ≡ p = omega arith in
    let here = grows _ _ _ _ _ _ _ _ (small (8 * (p % 8)) (omega arith)) (small (8 * (p % 8) + 1) (omega arith)) (small (8 * (p % 8) + 2) (omega arith)) (small (8 * (p % 8) + 3) (omega arith)) (small (8 * (p % 8) + 4) (omega arith)) (small (8 * (p % 8) + 5) (omega arith)) (small (8 * (p % 8) + 6) (omega arith)) (small (8 * (p % 8) + 7) (omega arith)) (p / 8) in_b in
    subst (λ (k : ℕ). Within n (item t k)) at (subst (λ (z : ℤ). Within n z) (sym (turned (p % 8) (p / 8) in_a in_b)) here)

pub forward8_grows : (m : ℕ) → Grows8 forward8_line m (64 * m)
forward8_grows m x0 x1 x2 x3 x4 x5 x6 x7 h0 h1 h2 h3 h4 h5 h6 h7 zero h = record { low = omega (arith, ints); high = omega (arith, ints) }
forward8_grows m x0 x1 x2 x3 x4 x5 x6 x7 h0 h1 h2 h3 h4 h5 h6 h7 (suc zero) h = record { low = omega (arith, ints); high = omega (arith, ints) }
forward8_grows m x0 x1 x2 x3 x4 x5 x6 x7 h0 h1 h2 h3 h4 h5 h6 h7 (suc (suc zero)) h = record { low = omega (arith, ints); high = omega (arith, ints) }
forward8_grows m x0 x1 x2 x3 x4 x5 x6 x7 h0 h1 h2 h3 h4 h5 h6 h7 (suc (suc (suc zero))) h = record { low = omega (arith, ints); high = omega (arith, ints) }
forward8_grows m x0 x1 x2 x3 x4 x5 x6 x7 h0 h1 h2 h3 h4 h5 h6 h7 (suc (suc (suc (suc zero)))) h = record { low = omega (arith, ints); high = omega (arith, ints) }
forward8_grows m x0 x1 x2 x3 x4 x5 x6 x7 h0 h1 h2 h3 h4 h5 h6 h7 (suc (suc (suc (suc (suc zero))))) h = record { low = omega (arith, ints); high = omega (arith, ints) }
forward8_grows m x0 x1 x2 x3 x4 x5 x6 x7 h0 h1 h2 h3 h4 h5 h6 h7 (suc (suc (suc (suc (suc (suc zero)))))) h = record { low = omega (arith, ints); high = omega (arith, ints) }
forward8_grows m x0 x1 x2 x3 x4 x5 x6 x7 h0 h1 h2 h3 h4 h5 h6 h7 (suc (suc (suc (suc (suc (suc (suc zero))))))) h = record { low = omega (arith, ints); high = omega (arith, ints) }
forward8_grows m x0 x1 x2 x3 x4 x5 x6 x7 h0 h1 h2 h3 h4 h5 h6 h7 (suc (suc (suc (suc (suc (suc (suc (suc b)))))))) h = absurd (omega arith)

-- ---- the inverse, stage by stage

even_sum : (m : ℕ) (x y : ℤ) → Within m x → Within m y → Within (2 * m + 1) (x +ℤ y)
even_sum m x y h k = record { low = omega (arith, ints); high = omega (arith, ints) }

even_difference : (m : ℕ) (x y : ℤ) → Within m x → Within m y → Within (2 * m + 1) (x -ℤ y)
even_difference m x y h k = record { low = omega (arith, ints); high = omega (arith, ints) }

half_difference : (m : ℕ) (x y : ℤ) → Within m x → Within m y → Within (2 * m + 1) (half x -ℤ y)
half_difference m x y h k = let s = by_2 x in record { low = omega (arith, ints); high = omega (arith, ints) }

half_sum : (m : ℕ) (x y : ℤ) → Within m x → Within m y → Within (2 * m + 1) (x +ℤ half y)
half_sum m x y h k = let s = by_2 y in record { low = omega (arith, ints); high = omega (arith, ints) }

odd1_within : (m : ℕ) (x y z : ℤ) → Within m x → Within m y → Within m z → Within (4 * m + 1) (odd1 x y z)
odd1_within m x y z h k l = let s = by_2 z in record { low = omega (arith, ints); high = omega (arith, ints) }

odd3_within : (m : ℕ) (x y z : ℤ) → Within m x → Within m y → Within m z → Within (4 * m + 1) (odd3 x y z)
odd3_within m x y z h k l = let s = by_2 y in record { low = omega (arith, ints); high = omega (arith, ints) }

odd5_within : (m : ℕ) (x y z : ℤ) → Within m x → Within m y → Within m z → Within (4 * m + 1) (odd5 x y z)
odd5_within m x y z h k l = let s = by_2 y in record { low = omega (arith, ints); high = omega (arith, ints) }

odd7_within : (m : ℕ) (x y z : ℤ) → Within m x → Within m y → Within m z → Within (4 * m + 1) (odd7 x y z)
odd7_within m x y z h k l = let s = by_2 x in record { low = omega (arith, ints); high = omega (arith, ints) }

quarter_sum : (n : ℕ) (x y : ℤ) → Within n x → Within n y → Within (2 * n + 1) (x +ℤ quarter y)
quarter_sum n x y h k = let s = by_4 y in record { low = omega (arith, ints); high = omega (arith, ints) }

quarter_less : (n : ℕ) (x y : ℤ) → Within n x → Within n y → Within (2 * n + 1) (quarter x -ℤ y)
quarter_less n x y h k = let s = by_4 x in record { low = omega (arith, ints); high = omega (arith, ints) }

less_quarter : (n : ℕ) (x y : ℤ) → Within n x → Within n y → Within (2 * n + 1) (x -ℤ quarter y)
less_quarter n x y h k = let s = by_4 y in record { low = omega (arith, ints); high = omega (arith, ints) }

-- the last stage
ends_within : (n : ℕ) → Grows8 ends8 n (2 * n + 1)
ends_within n x0 x1 x2 x3 x4 x5 x6 x7 h0 h1 h2 h3 h4 h5 h6 h7 zero h = even_sum n x0 x7 h0 h7
ends_within n x0 x1 x2 x3 x4 x5 x6 x7 h0 h1 h2 h3 h4 h5 h6 h7 (suc zero) h = even_sum n x2 x5 h2 h5
ends_within n x0 x1 x2 x3 x4 x5 x6 x7 h0 h1 h2 h3 h4 h5 h6 h7 (suc (suc zero)) h = even_sum n x4 x3 h4 h3
ends_within n x0 x1 x2 x3 x4 x5 x6 x7 h0 h1 h2 h3 h4 h5 h6 h7 (suc (suc (suc zero))) h = even_sum n x6 x1 h6 h1
ends_within n x0 x1 x2 x3 x4 x5 x6 x7 h0 h1 h2 h3 h4 h5 h6 h7 (suc (suc (suc (suc zero)))) h = even_difference n x6 x1 h6 h1
ends_within n x0 x1 x2 x3 x4 x5 x6 x7 h0 h1 h2 h3 h4 h5 h6 h7 (suc (suc (suc (suc (suc zero))))) h = even_difference n x4 x3 h4 h3
ends_within n x0 x1 x2 x3 x4 x5 x6 x7 h0 h1 h2 h3 h4 h5 h6 h7 (suc (suc (suc (suc (suc (suc zero)))))) h = even_difference n x2 x5 h2 h5
ends_within n x0 x1 x2 x3 x4 x5 x6 x7 h0 h1 h2 h3 h4 h5 h6 h7 (suc (suc (suc (suc (suc (suc (suc zero))))))) h = even_difference n x0 x7 h0 h7
ends_within n x0 x1 x2 x3 x4 x5 x6 x7 h0 h1 h2 h3 h4 h5 h6 h7 (suc (suc (suc (suc (suc (suc (suc (suc b)))))))) h = absurd (omega arith)

last_within : (n : ℕ) → Grows8 last8 n (2 * (2 * n + 1) + 1)
last_within n x0 x1 x2 x3 x4 x5 x6 x7 h0 h1 h2 h3 h4 h5 h6 h7 b h =
    ends_within (2 * n + 1) _ _ _ _ _ _ _ _ (even_sum n x0 x6 h0 h6) (quarter_sum n x1 x7 h1 h7) (even_sum n x2 x4 h2 h4) (quarter_sum n x3 x5 h3 h5) (even_difference n x2 x4 h2 h4) (quarter_less n x3 x5 h3 h5) (even_difference n x0 x6 h0 h6) (less_quarter n x7 x1 h7 h1) b h

more : (m n : ℕ) (x : ℤ) → m ≤ n → Within m x → Within n x
more m n x h w = record { low = omega (arith, ints); high = omega (arith, ints) }

pub line8_grows : (m : ℕ) → Grows8 line8 m (16 * m + 7)
line8_grows m x0 x1 x2 x3 x4 x5 x6 x7 h0 h1 h2 h3 h4 h5 h6 h7 b h =
    let k : 2 * m + 1 ≤ 4 * m + 1 = omega arith in
    let e : 2 * (2 * (4 * m + 1) + 1) + 1 ≡ 16 * m + 7 = omega arith in
    subst (λ (n : ℕ). Within n (item (line8 x0 x1 x2 x3 x4 x5 x6 x7) b)) e (last_within (4 * m + 1) _ _ _ _ _ _ _ _ (more _ _ _ k (even_sum m x0 x4 h0 h4)) (odd1_within m x3 x5 x7 h3 h5 h7) (more _ _ _ k (even_difference m x0 x4 h0 h4)) (odd3_within m x1 x3 x7 h1 h3 h7) (more _ _ _ k (half_difference m x2 x6 h2 h6)) (odd5_within m x1 x5 x7 h1 h5 h7) (more _ _ _ k (half_sum m x2 x6 h2 h6)) (odd7_within m x1 x3 x5 h1 h3 h5) b h)
