-- Bits that are there, and filler, over plain numbers. k counts a bit; a has come, b was removed before, x is the next unit, s comes until
-- the one behind it, and c is the size of the buffer.
use Rattle.std.proofs.Common.{ℕ, ◌≡◌, ◌+◌, ◌-◌, ◌*◌, ◌/◌, ◌<◌, ◌≤◌, max, Bool, true, false, cond, refl, sym, subst, arith}
use Rattle.std.specs.Prelude.{nat_lt}
use Rattle.std.proofs.lemmas.Bool.Decides.{nat_tests}
use Rattle.std.proofs.Math.Nat.{div-mul-le_self, lt-div-mul-add, mul-le-mul_right}

-- a unit of at most what is there
pub within : (k a b x : ℕ) → k * b ≤ a → x ≤ (a - k * b) / k → k * (b + x) ≤ a
within k a b x h g =
    let whole : (a - k * b) / k * k ≤ a - k * b = div-mul-le_self (a - k * b) k in
    let less : x * k ≤ (a - k * b) / k * k = mul-le-mul_right k g in
    let parts : k * (b + x) ≡ k * b + x * k = grind arith in
    omega (arith, whole, less, parts, h)

-- the filler of an excess e
abbrev pub filler_of : ℕ → ℕ → ℕ
filler_of k e = cond (nat_lt 0 e) (max 5 ((e + (8 * k - 1)) / (8 * k))) 0

-- enough of it, and not a byte too many, unless it is 5
least : (k e m : ℕ) → 0 < k → m ≡ (e + (8 * k - 1)) / (8 * k) → (e ≤ m * (8 * k)) × (m * (8 * k) ≤ e + (8 * k - 1))
least k e m some h =
    let up : e + (8 * k - 1) < (e + (8 * k - 1)) / (8 * k) * (8 * k) + 8 * k = lt-div-mul-add (omega arith) in
    let down : (e + (8 * k - 1)) / (8 * k) * (8 * k) ≤ e + (8 * k - 1) = div-mul-le_self (e + (8 * k - 1)) (8 * k) in
    let up' : e + (8 * k - 1) < m * (8 * k) + 8 * k = subst (λ n. e + (8 * k - 1) < n * (8 * k) + 8 * k) (sym h) up in
    let down' : m * (8 * k) ≤ e + (8 * k - 1) = subst (λ n. n * (8 * k) ≤ e + (8 * k - 1)) (sym h) down in
    (omega (arith, up'), down')

eights : (k m : ℕ) → m * (8 * k) ≡ 8 * (k * m)
eights k m = grind arith

three : (k c b x : ℕ) → k * (c + b + x) ≡ k * c + k * b + k * x
three k c b x = grind arith

two : (k b x f : ℕ) → k * (b + (x + 8 * f)) ≡ k * b + k * x + 8 * (k * f)
two k b x f = grind arith

four : (k c b x f : ℕ) → k * (c + (b + (x + 8 * f))) ≡ k * c + k * b + k * x + 8 * (k * f)
four k c b x f = grind arith

sum : (k b x : ℕ) → k * (b + x) ≡ k * b + k * x
sum k b x = grind arith

forty : (k : ℕ) → 8 * (k * 5) ≡ 40 * k
forty k = grind arith

-- no filler
none : (k a b x s c : ℕ) → k * (b + x) ≤ a → (a + s) - k * (c + b + x) ≡ 0 → (k * (b + (x + 8 * 0)) ≤ a) × (a + s ≤ k * (c + (b + (x + 8 * 0))))
none k a b x s c h e =
    let p = three k c b x in let q = two k b x 0 in let r = four k c b x 0 in let u = sum k b x in let z : k * 0 ≡ 0 = omega arith in
    (omega (arith, q, u, h, z), omega (arith, e, p, r, z))

-- five bytes
five : (k a b x s c m : ℕ) → 0 < (a + s) - k * (c + b + x) → s + 48 * k ≤ k * c → (a + s) - k * (c + b + x) ≤ m * (8 * k) → m ≤ 5 → (k * (b + (x + 8 * 5)) ≤ a) × (a + s ≤ k * (c + (b + (x + 8 * 5))))
five k a b x s c m e share enough few =
    let p = three k c b x in let q = two k b x 5 in let r = four k c b x 5 in let v = forty k in let w = eights k m in
    let low : m * k ≤ 5 * k = mul-le-mul_right k few in
    let turn : m * k ≡ k * m = omega arith in
    (omega (arith, e, share, p, q, v), omega (arith, enough, w, p, r, v, low, turn))

-- more
more : (k a b x s c m : ℕ) → 0 < (a + s) - k * (c + b + x) → s + 48 * k ≤ k * c → (a + s) - k * (c + b + x) ≤ m * (8 * k) → m * (8 * k) ≤ (a + s) - k * (c + b + x) + (8 * k - 1)
    → (k * (b + (x + 8 * m)) ≤ a) × (a + s ≤ k * (c + (b + (x + 8 * m))))
more k a b x s c m e share enough most =
    let p = three k c b x in let q = two k b x m in let r = four k c b x m in let w = eights k m in
    (omega (arith, e, share, most, p, q, w), omega (arith, enough, p, r, w))

by_size : (k a b x s c m : ℕ) → 0 < (a + s) - k * (c + b + x) → s + 48 * k ≤ k * c → (a + s) - k * (c + b + x) ≤ m * (8 * k) → m * (8 * k) ≤ (a + s) - k * (c + b + x) + (8 * k - 1)
    → (t : Bool) → nat_lt 5 m ≡ t → (k * (b + (x + 8 * (max 5 m))) ≤ a) × (a + s ≤ k * (c + (b + (x + 8 * (max 5 m)))))
by_size k a b x s c m e share enough most true t =
    let is : max 5 m ≡ m = grind (arith, nat_tests) in rw is (more k a b x s c m e share enough most)
by_size k a b x s c m e share enough most false t =
    let is : max 5 m ≡ 5 = grind (arith, nat_tests) in
    let few : m ≤ 5 = grind (arith, nat_tests) in
    rw is (five k a b x s c m e share enough few)

-- with its filler a unit still has at most what is there, and then the buffer isn't over its size
pub filled : (k a b x s c : ℕ) → 0 < k → k * (b + x) ≤ a → s + 48 * k ≤ k * c → (t : Bool) → nat_lt 0 ((a + s) - k * (c + b + x)) ≡ t
    → (let f : ℕ = cond t (max 5 (((a + s) - k * (c + b + x) + (8 * k - 1)) / (8 * k))) 0 in (k * (b + (x + 8 * f)) ≤ a) × (a + s ≤ k * (c + (b + (x + 8 * f)))))
filled k a b x s c some h share false t =
    let zero_is : (a + s) - k * (c + b + x) ≡ 0 = grind (arith, nat_tests) in none k a b x s c h zero_is
filled k a b x s c some h share true t =
    let e : ℕ = (a + s) - k * (c + b + x) in
    let over : 0 < e = grind (arith, nat_tests) in
    let m : ℕ = (e + (8 * k - 1)) / (8 * k) in
    let l = least k e m some refl in
    by_size k a b x s c m over share l.0 l.1 (nat_lt 5 m) refl
