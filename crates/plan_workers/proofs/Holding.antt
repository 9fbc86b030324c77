-- The slice that a row is in.
use Rattle.std.proofs.Common.{◌≡◌, ◌≤◌, ◌<◌, ◌+◌, ◌-◌, ◌*◌, ◌/◌, ℕ, arith}
use Rattle.std.proofs.lemmas.Nat.{div_below, le-div, mul-le}
use Rattle.std.proofs.Math.Nat.{div-mul-le_self, lt-div-mul-add, mul-le-mul_right}

-- which one it is
abbrev pub slice_of : ℕ → ℕ → ℕ → ℕ
slice_of slices down row = ((row + 1) * slices - 1) / down

less : (a b : ℕ) → a ≤ b → 1 ≤ a → a - 1 < b
less a b h g = omega (arith, h, g)

pub some_rows : (slices row : ℕ) → 0 < slices → 1 ≤ (row + 1) * slices
some_rows slices row some = mul-le 1 1 (row + 1) slices (omega arith) (omega (arith, some))

pub few_rows : (slices down row : ℕ) → slices ≤ down → down ≤ 144 → row < down → (row + 1) * slices ≤ 20736
few_rows slices down row few small inside = mul-le (row + 1) slices 144 144 (omega (arith, small, inside)) (omega (arith, few, small))

-- it is one of them
pub slice_fits : (slices down row : ℕ) → 0 < slices → row < down → slice_of slices down row < slices
slice_fits slices down row some inside =
    let most : (row + 1) * slices ≤ down * slices = mul-le-mul_right {m = row + 1} {n = down} slices (omega (arith, inside)) in
    let turned : down * slices ≡ slices * down = grind arith in
    div_below ((row + 1) * slices - 1) down slices (omega (arith, inside))
    (less ((row + 1) * slices) (slices * down) (omega (arith, most, turned)) (some_rows slices row some))

-- it begins with the row or above it
pub slice_before : (slices down row : ℕ) → 0 < slices → slice_of slices down row * down / slices ≤ row
slice_before slices down row some =
    let whole : slice_of slices down row * down ≤ (row + 1) * slices - 1 = div-mul-le_self ((row + 1) * slices - 1) down in
    let below = div_below (slice_of slices down row * down) slices (row + 1) some
    (within (slice_of slices down row * down) ((row + 1) * slices) whole (some_rows slices row some)) in
    omega (arith, below)
  where
    within : (a b : ℕ) → a ≤ b - 1 → 1 ≤ b → a < b
    within a b h g = omega (arith, h, g)

-- no other slice has the row
pub slice_is : (slices down row k : ℕ) → 0 < slices → 0 < down → k * down / slices ≤ row → row < (k + 1) * down / slices → slice_of slices down row ≡ k
slice_is slices down row k some rows from to =
    let next : k * down < k * down / slices * slices + slices = lt-div-mul-add {a = k * down} {b = slices} some in
    let most : k * down / slices * slices ≤ row * slices = mul-le-mul_right {m = k * down / slices} {n = row} slices from in
    let sum : (row + 1) * slices ≡ row * slices + slices = grind arith in
    let low : k ≤ slice_of slices down row = le-div k ((row + 1) * slices - 1) down rows (behind (k * down) (k * down / slices * slices) (row * slices) slices ((row + 1) * slices) next most sum) in
    let whole : (k + 1) * down / slices * slices ≤ (k + 1) * down = div-mul-le_self ((k + 1) * down) slices in
    let least : (row + 1) * slices ≤ (k + 1) * down / slices * slices = mul-le-mul_right {m = row + 1} {n = (k + 1) * down / slices} slices (omega (arith, to)) in
    let high : slice_of slices down row < k + 1 = div_below ((row + 1) * slices - 1) down (k + 1) rows
    (less ((row + 1) * slices) ((k + 1) * down) (omega (arith, least, whole)) (some_rows slices row some)) in
    omega (arith, low, high)
  where
    behind : (a b c s d : ℕ) → a < b + s → b ≤ c → d ≡ c + s → a ≤ d - 1
    behind a b c s d h g e = omega (arith, h, g, e)
