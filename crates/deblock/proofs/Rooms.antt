-- Places of edges within the buffer.
use Rattle.std.proofs.Common.{◌≡◌, ℕ, ◌+◌, ◌-◌, ◌*◌, ◌/◌, ◌%◌, ◌<◌, ◌≤◌, arith, lit<, zero, suc}
use Rattle.std.proofs.Math.Nat.{mul-le-mul_right}

-- the last line of a horizontal edge
pub luma_room : (o y x k s n : ℕ) → o + (16 * y + 15) * s + 16 * x + 16 ≤ n → k < 4 → o + (16 * y + 4 * k - 4) * s + 16 * x + 15 + 7 * s < n
luma_room o y x k s n room few =
    let rows : (16 * y + 4 * k - 4 + 7) * s ≤ (16 * y + 15) * s = mul-le-mul_right s (omega arith) in
    omega (arith, rows)

pub chroma_room : (o y x k s n : ℕ) → o + (8 * y + 7) * s + 8 * x + 8 ≤ n → k < 2 → o + (8 * y + 4 * k - 4) * s + 8 * x + 7 + 7 * s < n
chroma_room o y x k s n room few =
    let rows : (8 * y + 4 * k - 4 + 7) * s ≤ (8 * y + 7) * s = mul-le-mul_right s (omega arith) in
    omega (arith, rows)

-- the rows of a macroblock inside a plane with a margin
pub rows_inside : (a y h w pad n : ℕ) → n ≡ (w + 2 * pad) * (h + 2 * pad) → a * y + a ≤ h → 0 < a → pad * (w + 2 * pad) + pad + (a * y + (a - 1)) * (w + 2 * pad) + w ≤ n
rows_inside a y h w pad n size rows some =
    let more : (pad + (a * y + (a - 1)) + 1) * (w + 2 * pad) ≤ (h + 2 * pad) * (w + 2 * pad) = mul-le-mul_right (w + 2 * pad) (omega arith) in
    let turn : (h + 2 * pad) * (w + 2 * pad) ≡ (w + 2 * pad) * (h + 2 * pad) = grind arith in
    let parts : (pad + (a * y + (a - 1)) + 1) * (w + 2 * pad) ≡ pad * (w + 2 * pad) + (a * y + (a - 1)) * (w + 2 * pad) + (w + 2 * pad) = grind arith in
    omega (arith, more, turn, parts, size)

-- the place of a macroblock of a picture
pub column_inside : (m w : ℕ) → 0 < w → m % w < w
column_inside m w some = omega arith

pub row_inside : (m w h : ℕ) → m < w * h → m / w < h
row_inside m w h inside = grind arith

pub luma_plane_room : (x y w h pad n o s : ℕ) → o ≡ pad * (w + 2 * pad) + pad → s ≡ w + 2 * pad → n ≡ (w + 2 * pad) * (h + 2 * pad) → 16 * x + 16 ≤ w → 16 * y + 16 ≤ h
    → o + (16 * y + 15) * s + 16 * x + 16 ≤ n
luma_plane_room x y w h pad n o s eo es size columns rows =
    let inside : pad * (w + 2 * pad) + pad + (16 * y + 15) * (w + 2 * pad) + w ≤ n = rows_inside 16 y h w pad n size rows (lit< tt) in
    rw (eo, es) (omega (arith, inside))

pub chroma_plane_room : (x y w h pad n o s : ℕ) → o ≡ pad * (w + 2 * pad) + pad → s ≡ w + 2 * pad → n ≡ (w + 2 * pad) * (h + 2 * pad) → 8 * x + 8 ≤ w → 8 * y + 8 ≤ h
    → o + (8 * y + 7) * s + 8 * x + 8 ≤ n
chroma_plane_room x y w h pad n o s eo es size columns rows =
    let inside : pad * (w + 2 * pad) + pad + (8 * y + 7) * (w + 2 * pad) + w ≤ n = rows_inside 8 y h w pad n size rows (lit< tt) in
    rw (eo, es) (omega (arith, inside))

-- the macroblocks of a picture lie in its planes
pub in_luma_column : (m w : ℕ) → 0 < w / 16 → 16 * (m % (w / 16)) + 16 ≤ w
in_luma_column m w some = omega arith

pub in_luma_row : (m w h n : ℕ) → n ≡ w / 16 * (h / 16) → m < n → 16 * (m / (w / 16)) + 16 ≤ h
in_luma_row m w h n count inside =
    let few : m / (w / 16) < h / 16 = row_inside m (w / 16) (h / 16) (omega (arith, count)) in
    omega (arith, few)

pub some_columns : (m w h n : ℕ) → n ≡ w * h → m < n → 0 < w
some_columns m zero h n count inside = let none : 0 * h ≡ 0 = grind arith in absurd (omega (arith, none))
some_columns m (suc w) h n count inside = omega arith
