-- How rows of macroblocks are shared out.
use Rattle.std.proofs.Common.{◌≡◌, ◌≤◌, ◌<◌, ◌+◌, ◌*◌, ◌/◌, ℕ, arith}
use Rattle.std.proofs.lemmas.Nat.{mul-le, le-div}
use Rattle.std.proofs.Math.Nat.{div-le_of_le-mul, div-mul-le_self, mul-le-mul_right}

pub small_product : (k down : ℕ) → k ≤ 144 → down ≤ 144 → k * down ≤ 20736
small_product k down h g = mul-le k down 144 144 h g

-- no row is behind the last one
pub row_inside : (k d s : ℕ) → k ≤ s → k * d / s ≤ d
row_inside k d s h = div-le_of_le-mul s {m = k * d} {n = d} (mul-le-mul_right {m = k} {n = s} d h)

-- later slices begin further down
pub row_grows : (a b d s : ℕ) → 0 < s → a ≤ b → a * d / s ≤ b * d / s
row_grows a b d s some h =
    let whole = div-mul-le_self (a * d) s in
    let more : a * d ≤ b * d = mul-le-mul_right {m = a} {n = b} d h in
    le-div (a * d / s) (b * d) s some (omega arith)

-- the first slice begins with the first row
pub row_none : (d s : ℕ) → 0 * d / s ≡ 0
row_none d s = let h : 0 * d ≤ s * 0 = omega arith in let e = div-le_of_le-mul s {m = 0 * d} {n = 0} h in omega arith

-- the last one ends with the last
pub row_last : (d s : ℕ) → 0 < s → s * d / s ≡ d
row_last d s some =
    let h : s ≤ s = omega arith in
    let most = row_inside s d s h in
    let g : d * s ≤ s * d = omega arith in
    let least = le-div d (s * d) s some g in
    omega arith

-- a slice has a row of its own
pub row_next : (k d s : ℕ) → 0 < s → s ≤ d → k * d / s + 1 ≤ (k + 1) * d / s
row_next k d s some h =
    let whole = div-mul-le_self (k * d) s in
    let g : (k * d / s + 1) * s ≤ (k + 1) * d = grind arith in
    le-div (k * d / s + 1) ((k + 1) * d) s some g
