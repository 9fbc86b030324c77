-- Bounds on levels, and on what rescaling makes of them: facts of the tables, computed once, and what follows for each kind of block.
use Rattle.std.proofs.Common.{◌≡◌, ℕ, zero, suc, ℤ, pos, negsuc, ◌+◌, ◌*◌, ◌/◌, ◌%◌, ◌^◌, ◌<◌, ◌≤◌, ◌+ℤ◌, ◌*ℤ◌, ◌≤ℤ◌, Bool, true, false, ◌&&◌, leb, T, List, [], ◌∷◌, get_or, refl, sym, ap, ◌∙◌, arith, subst, lit<, lit≤}
use Rattle.std.proofs.Math.Nat.{div-le_of_le-mul, div-mul-le_self, pow-le-pow_right, mul-le-mul_left, mul-le-mul_right, le-mul_of_pos_right}
use Rattle.std.proofs.Math.Pow.{shr_mono}
use Rattle.std.proofs.Math.Dec.{leb→le}
use Rattle.std.proofs.lemmas.Int.{ints}
use Rattle.std.proofs.lemmas.Nat.{pow-add, pow_pos, mul-le}
use lib.Ieee.Fits.{and_l, and_r}
use Rattle.enc_tables.specs.declared.transform.TheConstants.{MULTIPLIER4, MULTIPLIER8, SCALING4, SCALING8, CLASS4, CLASS8}
use Rattle.spec_residual.specs.declared.BlockKind.{BlockKind}
use Rattle.spec_residual.specs.declared.BlockKind.TheVariants.{Luma4, Luma8, LumaDc, Chroma4, ChromaDc}
use Rattle.spec_basics.specs.Bounds.{Within}
use Rattle.spec_residual.specs.Blocks.{in_table}
use Rattle.spec_residual.specs.Levels.{multiplier, shift, share, rounding, signed_level, level_of, greatest, IsMade}
use Rattle.spec_residual.specs.Rescaled.{scaling, quarter_scaled, rescaled}
use Rattle.std.specs.Int.{int_shr}
use Rattle.std.specs.Int.Signed.{shr_z}

-- ---- tables

abbrev pub row_at_most : ℕ → List ℕ → Bool
row_at_most b [] = true
row_at_most b (x ∷ xs) = leb x b && row_at_most b xs

abbrev pub rows_at_most : ℕ → List (List ℕ) → Bool
rows_at_most b [] = true
rows_at_most b (r ∷ rs) = row_at_most b r && rows_at_most b rs

pub in_row : (b : ℕ) (xs : List ℕ) → T (row_at_most b xs) → (j : ℕ) → get_or xs j 0 ≤ b
in_row b [] h j = omega arith
in_row b (x ∷ xs) h zero = leb→le x b (and_l (leb x b) (row_at_most b xs) h)
in_row b (x ∷ xs) h (suc j) = in_row b xs (and_r (leb x b) (row_at_most b xs) h) j

pub in_rows : (b : ℕ) (rows : List (List ℕ)) → T (rows_at_most b rows) → (i j : ℕ) → in_table rows i j ≤ b
in_rows b [] h i j = omega arith
in_rows b (r ∷ rs) h zero j = in_row b r (and_l (row_at_most b r) (rows_at_most b rs) h) j
in_rows b (r ∷ rs) h (suc i) j = in_rows b rs (and_r (row_at_most b r) (rows_at_most b rs) h) i j

-- the products of what stands at the same place
abbrev row_products_at_most : ℕ → List ℕ → List ℕ → Bool
row_products_at_most b [] ys = true
row_products_at_most b (x ∷ xs) [] = true
row_products_at_most b (x ∷ xs) (y ∷ ys) = leb (x * y) b && row_products_at_most b xs ys

abbrev products_at_most : ℕ → List (List ℕ) → List (List ℕ) → Bool
products_at_most b [] ss = true
products_at_most b (r ∷ rs) [] = true
products_at_most b (r ∷ rs) (s ∷ ss) = row_products_at_most b r s && products_at_most b rs ss

product_in_row : (b : ℕ) (xs ys : List ℕ) → T (row_products_at_most b xs ys) → (j : ℕ) → get_or xs j 0 * get_or ys j 0 ≤ b
product_in_row b [] ys h j = omega arith
product_in_row b (x ∷ xs) [] h j = omega arith
product_in_row b (x ∷ xs) (y ∷ ys) h zero = leb→le (x * y) b (and_l (leb (x * y) b) (row_products_at_most b xs ys) h)
product_in_row b (x ∷ xs) (y ∷ ys) h (suc j) = product_in_row b xs ys (and_r (leb (x * y) b) (row_products_at_most b xs ys) h) j

product_in_rows : (b : ℕ) (rs ss : List (List ℕ)) → T (products_at_most b rs ss) → (i j : ℕ) → in_table rs i j * in_table ss i j ≤ b
product_in_rows b [] ss h i j = omega arith
product_in_rows b (r ∷ rs) [] h i j = omega arith
product_in_rows b (r ∷ rs) (s ∷ ss) h zero j = product_in_row b r s (and_l (row_products_at_most b r s) (products_at_most b rs ss) h) j
product_in_rows b (r ∷ rs) (s ∷ ss) h (suc i) j = product_in_rows b rs ss (and_r (row_products_at_most b r s) (products_at_most b rs ss) h) i j

-- ---- what holds of each kind

-- the greatest multiplier
abbrev pub top_multiplier : BlockKind → ℕ
top_multiplier Luma4 = 13107
top_multiplier Luma8 = 20972
top_multiplier LumaDc = 13107
top_multiplier Chroma4 = 13107
top_multiplier ChromaDc = 13107

pub multiplier_small : (kind : BlockKind) (qp p : ℕ) → multiplier kind qp p ≤ top_multiplier kind
unfolding multiplier
multiplier_small Luma4 qp p = in_rows 13107 MULTIPLIER4 tt (qp % 6) (get_or CLASS4 p 0)
multiplier_small Luma8 qp p = in_rows 20972 MULTIPLIER8 tt (qp % 6) (get_or CLASS8 p 0)
multiplier_small LumaDc qp p = in_rows 13107 MULTIPLIER4 tt (qp % 6) 0
multiplier_small Chroma4 qp p = in_rows 13107 MULTIPLIER4 tt (qp % 6) (get_or CLASS4 p 0)
multiplier_small ChromaDc qp p = in_rows 13107 MULTIPLIER4 tt (qp % 6) 0

pub scaling_small : (kind : BlockKind) (qp p : ℕ) → scaling kind qp p ≤ 58
unfolding scaling
scaling_small Luma4 qp p = in_rows 58 SCALING4 tt (qp % 6) (get_or CLASS4 p 0)
scaling_small Luma8 qp p = in_rows 58 SCALING8 tt (qp % 6) (get_or CLASS8 p 0)
scaling_small LumaDc qp p = in_rows 58 SCALING4 tt (qp % 6) 0
scaling_small Chroma4 qp p = in_rows 58 SCALING4 tt (qp % 6) (get_or CLASS4 p 0)
scaling_small ChromaDc qp p = in_rows 58 SCALING4 tt (qp % 6) 0

-- the greatest product of a multiplier and the scaling of the same place
abbrev top_product : BlockKind → ℕ
top_product Luma4 = 131200
top_product Luma8 = 671200
top_product LumaDc = 131200
top_product Chroma4 = 131200
top_product ChromaDc = 131200

product_small : (kind : BlockKind) (qp p : ℕ) → multiplier kind qp p * scaling kind qp p ≤ top_product kind
unfolding multiplier scaling
product_small Luma4 qp p = product_in_rows 131200 MULTIPLIER4 SCALING4 tt (qp % 6) (get_or CLASS4 p 0)
product_small Luma8 qp p = product_in_rows 671200 MULTIPLIER8 SCALING8 tt (qp % 6) (get_or CLASS8 p 0)
product_small LumaDc qp p = product_in_rows 131200 MULTIPLIER4 SCALING4 tt (qp % 6) 0
product_small Chroma4 qp p = product_in_rows 131200 MULTIPLIER4 SCALING4 tt (qp % 6) (get_or CLASS4 p 0)
product_small ChromaDc qp p = product_in_rows 131200 MULTIPLIER4 SCALING4 tt (qp % 6) 0

-- the divisor of the quantiser at a parameter below 6
abbrev pub base : BlockKind → ℕ
base Luma4 = 32768
base Luma8 = 65536
base LumaDc = 65536
base Chroma4 = 32768
base ChromaDc = 65536

pub divisor_is : (kind : BlockKind) (qp : ℕ) → 2 ^ shift kind qp ≡ base kind * 2 ^ (qp / 6)
unfolding shift
divisor_is Luma4 qp = pow-add 2 15 (qp / 6)
divisor_is Luma8 qp = pow-add 2 16 (qp / 6)
divisor_is LumaDc qp = pow-add 2 16 (qp / 6)
divisor_is Chroma4 qp = pow-add 2 15 (qp / 6)
divisor_is ChromaDc qp = pow-add 2 16 (qp / 6)

pub power_small : (qp : ℕ) → qp ≤ 51 → 2 ^ (qp / 6) ≤ 256
power_small qp h = pow-le-pow_right {n = 2} (lit< tt) {i = qp / 6} {j = 8} (omega arith)

share_small : (intra : Bool) (n : ℕ) → share intra n ≤ n / 3
share_small true n = omega arith
share_small false n = omega arith

-- what is added is at most a third of the divisor
pub rounding_small : (kind : BlockKind) (intra : Bool) (qp : ℕ) → 3 * rounding kind intra qp ≤ 2 ^ shift kind qp
unfolding rounding shift
rounding_small Luma4 intra qp = let s = share_small intra (2 ^ (15 + qp / 6)) in omega arith
rounding_small Luma8 intra qp = let s = share_small intra (2 ^ (16 + qp / 6)) in omega arith
rounding_small LumaDc intra qp =
    let s = share_small intra (2 ^ (15 + qp / 6)) in
    let e = pow-add 2 15 (qp / 6) in
    let f = pow-add 2 16 (qp / 6) in
    omega arith
rounding_small Chroma4 intra qp = let s = share_small intra (2 ^ (15 + qp / 6)) in omega arith
rounding_small ChromaDc intra qp =
    let s = share_small intra (2 ^ (15 + qp / 6)) in
    let e = pow-add 2 15 (qp / 6) in
    let f = pow-add 2 16 (qp / 6) in
    omega arith

-- ---- levels

-- the greatest size of a level at place p
abbrev pub top_level : BlockKind → Bool → ℕ → ℕ → ℕ
top_level kind intra qp p = (greatest kind * multiplier kind qp p + rounding kind intra qp) / 2 ^ shift kind qp

signed_within : (m f s b : ℕ) (c : ℤ) → Within b c → Within ((b * m + f) / 2 ^ s) (signed_level m f s c)
signed_within m f s b (pos n) w =
    let h : n ≤ b = omega (arith, ints) in
    let k : n * m + f ≤ b * m + f = omega (arith, mul-le-mul_right m h) in
    let q = shr_mono {a = n * m + f} {b = b * m + f} s k in
    record { low = omega (arith, ints); high = omega (arith, ints) }
signed_within m f s b (negsuc n) w =
    let h : suc n ≤ b = omega (arith, ints) in
    let k : suc n * m + f ≤ b * m + f = omega (arith, mul-le-mul_right m h) in
    let q = shr_mono {a = suc n * m + f} {b = b * m + f} s k in
    record { low = omega (arith, ints); high = omega (arith, ints) }

-- the level of a coefficient of at most the greatest size
pub level_within_top : (kind : BlockKind) (intra : Bool) (qp p : ℕ) (c : ℤ) → Within (greatest kind) c → Within (top_level kind intra qp p) (level_of kind intra qp p c)
unfolding level_of
level_within_top kind intra qp p c w = signed_within (multiplier kind qp p) (rounding kind intra qp) (shift kind qp) (greatest kind) c w

-- (b·m + f) / (base·k) is at most n, where b·m is at most (n - 1)·base
quotient_small : (b m f s bs k n t : ℕ) → m ≤ t → b * t ≤ n * bs → 3 * f ≤ s → s ≡ bs * k → 0 < k → (b * m + f) / s ≤ n + 1
quotient_small b m f s bs k n t small enough third is some =
    let h = mul-le-mul_left {m = m} {n = t} b small in
    let g = mul-le-mul_left {m = b * t} {n = n * bs} k enough in
    let l : b * m ≤ b * m * k = le-mul_of_pos_right (b * m) some in
    let h' = mul-le-mul_right {m = b * m} {n = b * t} k h in
    let i : s * n ≡ bs * k * n = ap (λ (z : ℕ). z * n) is in
    let j : b * m + f ≤ s * (n + 1) = grind arith in
    div-le_of_le-mul s {m = b * m + f} {n = n + 1} j

pub top_level_small : (kind : BlockKind) (intra : Bool) (qp p : ℕ) → top_level kind intra qp p ≤ 8191
top_level_small Luma4 intra qp p = quotient_small 9180 _ _ _ 32768 (2 ^ (qp / 6)) 8190 13107 (multiplier_small Luma4 qp p) (lit≤ tt) (rounding_small Luma4 intra qp) (divisor_is Luma4 qp) (pow_pos (qp / 6))
top_level_small Luma8 intra qp p = quotient_small 16320 _ _ _ 65536 (2 ^ (qp / 6)) 8190 20972 (multiplier_small Luma8 qp p) (lit≤ tt) (rounding_small Luma8 intra qp) (divisor_is Luma8 qp) (pow_pos (qp / 6))
top_level_small LumaDc intra qp p = quotient_small 32640 _ _ _ 65536 (2 ^ (qp / 6)) 8190 13107 (multiplier_small LumaDc qp p) (lit≤ tt) (rounding_small LumaDc intra qp) (divisor_is LumaDc qp) (pow_pos (qp / 6))
top_level_small Chroma4 intra qp p = quotient_small 9180 _ _ _ 32768 (2 ^ (qp / 6)) 8190 13107 (multiplier_small Chroma4 qp p) (lit≤ tt) (rounding_small Chroma4 intra qp) (divisor_is Chroma4 qp) (pow_pos (qp / 6))
top_level_small ChromaDc intra qp p = quotient_small 16320 _ _ _ 65536 (2 ^ (qp / 6)) 8190 13107 (multiplier_small ChromaDc qp p) (lit≤ tt) (rounding_small ChromaDc intra qp) (divisor_is ChromaDc qp) (pow_pos (qp / 6))

pub multiplier_at_most : (kind : BlockKind) (qp p : ℕ) → multiplier kind qp p ≤ 20972
multiplier_at_most Luma4 qp p = let h = multiplier_small Luma4 qp p in omega arith
multiplier_at_most Luma8 qp p = let h = multiplier_small Luma8 qp p in omega arith
multiplier_at_most LumaDc qp p = let h = multiplier_small LumaDc qp p in omega arith
multiplier_at_most Chroma4 qp p = let h = multiplier_small Chroma4 qp p in omega arith
multiplier_at_most ChromaDc qp p = let h = multiplier_small ChromaDc qp p in omega arith

pub base_at_most : (kind : BlockKind) → base kind ≤ 65536
base_at_most Luma4 = lit≤ tt
base_at_most Luma8 = lit≤ tt
base_at_most LumaDc = lit≤ tt
base_at_most Chroma4 = lit≤ tt
base_at_most ChromaDc = lit≤ tt

pub rounding_at_most : (kind : BlockKind) (intra : Bool) (qp : ℕ) → qp ≤ 51 → rounding kind intra qp ≤ 16777216
rounding_at_most kind intra qp h =
    let r = rounding_small kind intra qp in
    let e = divisor_is kind qp in
    let m = mul-le (base kind) (2 ^ (qp / 6)) 65536 256 (base_at_most kind) (power_small qp h) in
    omega arith

-- the sizes of levels of coefficients of at most 65280 fit 16 bits
pub sizes_fit : (kind : BlockKind) (intra : Bool) (qp p : ℕ) → (65280 * multiplier kind qp p + rounding kind intra qp) / 2 ^ shift kind qp ≤ 26113
sizes_fit Luma4 intra qp p = quotient_small 65280 _ _ _ 32768 (2 ^ (qp / 6)) 26112 13107 (multiplier_small Luma4 qp p) (lit≤ tt) (rounding_small Luma4 intra qp) (divisor_is Luma4 qp) (pow_pos (qp / 6))
sizes_fit Luma8 intra qp p = quotient_small 65280 _ _ _ 65536 (2 ^ (qp / 6)) 26112 20972 (multiplier_small Luma8 qp p) (lit≤ tt) (rounding_small Luma8 intra qp) (divisor_is Luma8 qp) (pow_pos (qp / 6))
sizes_fit LumaDc intra qp p = quotient_small 65280 _ _ _ 65536 (2 ^ (qp / 6)) 26112 13107 (multiplier_small LumaDc qp p) (lit≤ tt) (rounding_small LumaDc intra qp) (divisor_is LumaDc qp) (pow_pos (qp / 6))
sizes_fit Chroma4 intra qp p = quotient_small 65280 _ _ _ 32768 (2 ^ (qp / 6)) 26112 13107 (multiplier_small Chroma4 qp p) (lit≤ tt) (rounding_small Chroma4 intra qp) (divisor_is Chroma4 qp) (pow_pos (qp / 6))
sizes_fit ChromaDc intra qp p = quotient_small 65280 _ _ _ 65536 (2 ^ (qp / 6)) 26112 13107 (multiplier_small ChromaDc qp p) (lit≤ tt) (rounding_small ChromaDc intra qp) (divisor_is ChromaDc qp) (pow_pos (qp / 6))

pub within_more : (m n : ℕ) (x : ℤ) → m ≤ n → Within m x → Within n x
within_more m n x h w = record { low = omega (arith, ints); high = omega (arith, ints) }

pub level_small : (kind : BlockKind) (intra : Bool) (qp p : ℕ) (c : ℤ) → Within (greatest kind) c → Within 8191 (level_of kind intra qp p c)
level_small kind intra qp p c w = within_more _ 8191 _ (top_level_small kind intra qp p) (level_within_top kind intra qp p c w)

-- ---- rescaled levels

-- l·s ≤ b·m + f gives a bound on l·v·k, where s is base·k
scaled_small : (l s k v m b f bs mv vt : ℕ) → l * s ≤ b * m + f → 3 * f ≤ s → s ≡ bs * k → m * v ≤ mv → v * k ≤ vt → bs * (l * (v * k)) ≤ b * mv + bs * vt
scaled_small l s k v m b f bs mv vt h third is products small =
    let g = mul-le-mul_right {m = l * s} {n = b * m + f} v h in
    let e : l * s * v ≡ bs * (l * (v * k)) = rw is (omega arith) in
    let t = mul-le-mul_right {m = 3 * f} {n = s} v third in
    let u : s * v ≡ bs * (v * k) = rw is (omega arith) in
    let q = mul-le-mul_left {m = m * v} {n = mv} b products in
    let w = mul-le-mul_left {m = v * k} {n = vt} bs small in
    omega arith

top_rescaled : (kind : BlockKind) (intra : Bool) (qp p : ℕ) → qp ≤ 51 → base kind * (top_level kind intra qp p * (scaling kind qp p * 2 ^ (qp / 6))) ≤ greatest kind * top_product kind + base kind * 14848
top_rescaled kind intra qp p h =
    scaled_small (top_level kind intra qp p) (2 ^ shift kind qp) (2 ^ (qp / 6)) (scaling kind qp p) (multiplier kind qp p) (greatest kind) (rounding kind intra qp) (base kind) (top_product kind) 14848 (div-mul-le_self _ _) (rounding_small kind intra qp) (divisor_is kind qp) (product_small kind qp p) (mul-le _ _ 58 256 (scaling_small kind qp p) (power_small qp h))

-- the greatest size of what a level is rescaled to, before any rounding
abbrev pub top_scaled : BlockKind → Bool → ℕ → ℕ → ℕ
top_scaled kind intra qp p = top_level kind intra qp p * (scaling kind qp p * 2 ^ (qp / 6))

pub luma4_top : (intra : Bool) (qp p : ℕ) → qp ≤ 51 → top_scaled Luma4 intra qp p ≤ 1048576
luma4_top intra qp p h = let t = top_rescaled Luma4 intra qp p h in omega arith

pub chroma4_top : (intra : Bool) (qp p : ℕ) → qp ≤ 51 → top_scaled Chroma4 intra qp p ≤ 1048576
chroma4_top intra qp p h = let t = top_rescaled Chroma4 intra qp p h in omega arith

pub luma8_top : (intra : Bool) (qp p : ℕ) → qp ≤ 51 → top_scaled Luma8 intra qp p ≤ 200000
luma8_top intra qp p h = let t = top_rescaled Luma8 intra qp p h in omega arith

pub luma_dc_top : (intra : Bool) (qp p : ℕ) → qp ≤ 51 → top_scaled LumaDc intra qp p ≤ 100000
luma_dc_top intra qp p h = let t = top_rescaled LumaDc intra qp p h in omega arith

pub chroma_dc_top : (intra : Bool) (qp p : ℕ) → qp ≤ 51 → top_scaled ChromaDc intra qp p ≤ 100000
chroma_dc_top intra qp p h = let t = top_rescaled ChromaDc intra qp p h in omega arith

-- ---- products

-- s is x / (n + 1), rounded down
record IsDivided (n : ℕ) (x s : ℤ) : Type 0 where
  pub low : x ≤ℤ ((pos (n + 1) *ℤ s) +ℤ pos n)
  pub high : (pos (n + 1) *ℤ s) ≤ℤ x

half_bounds : (x : ℤ) → IsDivided 1 x (shr_z x 2)
half_bounds (pos a) = record { low = omega (arith, ints); high = omega (arith, ints) }
half_bounds (negsuc a) = record { low = omega (arith, ints); high = omega (arith, ints) }

quarter_bounds : (x : ℤ) → IsDivided 3 x (shr_z x 4)
quarter_bounds (pos a) = record { low = omega (arith, ints); high = omega (arith, ints) }
quarter_bounds (negsuc a) = record { low = omega (arith, ints); high = omega (arith, ints) }

pow_four : (k : ℕ) → 2 ^ suc (suc k) ≡ 4 * 2 ^ k
pow_four k = let e = pow-add 2 2 k in let f : suc (suc k) ≡ 2 + k = omega arith in ap (λ (z : ℕ). 2 ^ z) f ∙ e

le-refl : (n : ℕ) → n ≤ n
le-refl n = omega arith

pub times_within : (a b n : ℕ) (x : ℤ) → Within a x → n ≤ b → Within (a * b) (x *ℤ pos n)
times_within a b n (pos m) w h =
    let k : m ≤ a = omega (arith, ints) in
    let l : m * n ≤ a * b = mul-le m n a b k h in
    record { low = omega (arith, ints); high = omega (arith, ints) }
times_within a b n (negsuc m) w h =
    let k : suc m ≤ a = omega (arith, ints) in
    let l : suc m * n ≤ a * b = mul-le (suc m) n a b k h in
    record { low = omega (arith, ints); high = omega (arith, ints) }

-- x·2^k / 4, rounded, where x is at most n in size
pub quarter_within : (n k r : ℕ) (x : ℤ) → Within n x → n * 2 ^ k + 2 ≤ 4 * r → Within r (quarter_scaled k x)
quarter_within n zero r x w h =
    let s = quarter_bounds (x +ℤ pos 2) in
    record { low = omega (arith, ints); high = omega (arith, ints) }
quarter_within n (suc zero) r x w h =
    let s = half_bounds (x +ℤ pos 1) in
    record { low = omega (arith, ints); high = omega (arith, ints) }
quarter_within n (suc (suc k)) r x w h =
    let e : 2 ^ suc (suc k) ≡ 4 * 2 ^ k = pow_four k in
    let g : n * 2 ^ suc (suc k) ≡ 4 * (n * 2 ^ k) = ap (λ (z : ℕ). n * z) e ∙ omega arith in
    within_more (n * 2 ^ k) r _ (omega arith) (times_within n (2 ^ k) (2 ^ k) x w (le-refl (2 ^ k)))

pub half_within : (n : ℕ) (x : ℤ) → Within n x → Within n (int_shr x 1)
half_within n x w =
    let s = half_bounds x in
    record { low = omega (arith, ints); high = omega (arith, ints) }

-- ---- rescaled levels of the quantiser

pub made_within : (kind : BlockKind) (intra : Bool) (qp p : ℕ) (level : ℤ) → IsMade kind intra qp p level → Within (top_level kind intra qp p) level
made_within kind intra qp p level m =
    subst (λ (z : ℤ). Within (top_level kind intra qp p) z) (sym m.made) (level_within_top kind intra qp p m.coefficient m.small)

scaled_within : (l v k n : ℕ) (x : ℤ) → Within l x → l * (v * k) ≤ n → Within n (x *ℤ pos (v * k))
scaled_within l v k n x w h = within_more (l * (v * k)) n _ h (times_within l (v * k) (v * k) x w (le-refl (v * k)))

quarter_scaled_within : (l v k n : ℕ) (x : ℤ) → Within l x → l * (v * 2 ^ k) + 2 ≤ 4 * n → Within n (quarter_scaled k (x *ℤ pos v))
quarter_scaled_within l v k n x w h =
    let e : l * v * 2 ^ k ≡ l * (v * 2 ^ k) = omega arith in
    quarter_within (l * v) k n (x *ℤ pos v) (times_within l v v x w (le-refl v)) (omega arith)

rescaled_within : (kind : BlockKind) (intra : Bool) (qp p : ℕ) (x : ℤ) → qp ≤ 51 → Within (top_level kind intra qp p) x → Within 1048576 (rescaled kind qp p x)
unfolding rescaled
rescaled_within Luma4 intra qp p x h w = scaled_within (top_level Luma4 intra qp p) (scaling Luma4 qp p) (2 ^ (qp / 6)) 1048576 x w (luma4_top intra qp p h)
rescaled_within Luma8 intra qp p x h w =
    let t = luma8_top intra qp p h in
    quarter_scaled_within (top_level Luma8 intra qp p) (scaling Luma8 qp p) (qp / 6) 1048576 x w (omega arith)
rescaled_within LumaDc intra qp p x h w =
    let t = luma_dc_top intra qp p h in
    quarter_scaled_within (top_level LumaDc intra qp p) (scaling LumaDc qp p) (qp / 6) 1048576 x w (omega arith)
rescaled_within Chroma4 intra qp p x h w = scaled_within (top_level Chroma4 intra qp p) (scaling Chroma4 qp p) (2 ^ (qp / 6)) 1048576 x w (chroma4_top intra qp p h)
rescaled_within ChromaDc intra qp p x h w =
    let t = chroma_dc_top intra qp p h in
    half_within 1048576 _ (scaled_within (top_level ChromaDc intra qp p) (scaling ChromaDc qp p) (2 ^ (qp / 6)) 1048576 x w (omega arith))

-- a level that the quantiser made
pub rescaled_small : (kind : BlockKind) (intra : Bool) (qp p : ℕ) (level : ℤ) → qp ≤ 51 → IsMade kind intra qp p level → Within 1048576 (rescaled kind qp p level)
rescaled_small kind intra qp p level h m = rescaled_within kind intra qp p level h (made_within kind intra qp p level m)

-- a sum of sixteen DC levels that the quantiser made
pub luma_dc_sum_small : (intra : Bool) (qp p : ℕ) (x : ℤ) → qp ≤ 51 → Within (16 * top_level LumaDc intra qp p) x → Within 1048576 (rescaled LumaDc qp p x)
unfolding rescaled
luma_dc_sum_small intra qp p x h w =
    let t = luma_dc_top intra qp p h in
    let e : 16 * top_level LumaDc intra qp p * (scaling LumaDc qp p * 2 ^ (qp / 6)) ≡ 16 * top_scaled LumaDc intra qp p = omega arith in
    quarter_scaled_within (16 * top_level LumaDc intra qp p) (scaling LumaDc qp p) (qp / 6) 1048576 x w (omega arith)

-- a sum of four DC levels that the quantiser made
pub chroma_dc_sum_small : (intra : Bool) (qp p : ℕ) (x : ℤ) → qp ≤ 51 → Within (4 * top_level ChromaDc intra qp p) x → Within 1048576 (rescaled ChromaDc qp p x)
unfolding rescaled
chroma_dc_sum_small intra qp p x h w =
    let t = chroma_dc_top intra qp p h in
    let e : 4 * top_level ChromaDc intra qp p * (scaling ChromaDc qp p * 2 ^ (qp / 6)) ≡ 4 * top_scaled ChromaDc intra qp p = omega arith in
    half_within 1048576 _ (scaled_within (4 * top_level ChromaDc intra qp p) (scaling ChromaDc qp p) (2 ^ (qp / 6)) 1048576 x w (omega arith))

-- the bound doesn't depend on the place of a DC level
pub luma_dc_top_level : (intra : Bool) (qp p : ℕ) → top_level LumaDc intra qp p ≡ top_level LumaDc intra qp 0
unfolding multiplier
luma_dc_top_level intra qp p = refl

pub chroma_dc_top_level : (intra : Bool) (qp p : ℕ) → top_level ChromaDc intra qp p ≡ top_level ChromaDc intra qp 0
unfolding multiplier
chroma_dc_top_level intra qp p = refl
