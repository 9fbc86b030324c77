-- Units that the ledger allows keep the buffer.
use Rattle.std.proofs.Common.{ℕ, zero, suc, ◌≡◌, ◌+◌, ◌-◌, ◌*◌, ◌/◌, ◌<◌, ◌≤◌, max, cond, List, [], ◌∷◌, length, take, refl, sym, subst, arith}
use Rattle.std.specs.Prelude.{nat_lt}
use Rattle.std.specs.Simd.Lanes.{sum_l}
use Rattle.std.proofs.Math.Nat.{mul-le-mul_right}
use Rattle.std.proofs.lemmas.Nat.{le-div}
use Rattle.spec_buffer.specs.Buffer.{Rate, scale, arrived, share_of, BufferHolds, IsRate}
use Rattle.spec_buffer.specs.Ledger.{Ledger, fresh, Keeps, available, filler_bytes, spent, Spends, sizes_of}
use Rattle.spec_buffer.proofs.Numbers.{within, filled}

-- the same from unit n on, behind b bits
abbrev pub HoldsFrom : Rate → ℕ → ℕ → List ℕ → Type 0
HoldsFrom t n b [] = arrived t n ≤ scale t * (t.cpb + b)
HoldsFrom t n b (x ∷ xs) = (scale t * (b + x) ≤ arrived t n) × (arrived t n ≤ scale t * (t.cpb + b)) × HoldsFrom t (n + 1) (b + x) xs

arrived_more : (t : Rate) (n : ℕ) → arrived t (n + 1) ≡ arrived t n + share_of t
arrived_more t n = grind arith

share_fits : (t : Rate) → IsRate t → share_of t + 48 * scale t ≤ scale t * t.cpb
share_fits t is =
    let h : (t.rate * t.den + 48 * t.num) * 90000 ≤ t.cpb * t.num * 90000 = omega (arith, is.share) in
    let p : (t.rate * t.den + 48 * t.num) * 90000 ≡ t.rate * (90000 * t.den) + 48 * (90000 * t.num) = grind arith in
    let q : t.cpb * t.num * 90000 ≡ 90000 * t.num * t.cpb = grind arith in
    omega (arith, h, p, q)

-- y has come until the next unit
abbrev pub Fills : Rate → Ledger → ℕ → ℕ → ℕ → Type 0
Fills t l x y f = (scale t * (l.bits + (x + 8 * f)) ≤ arrived t l.units) × (y ≤ scale t * (t.cpb + (l.bits + (x + 8 * f))))

abbrev pub filler_by : Rate → Ledger → ℕ → ℕ → ℕ
filler_by t l x y = let e : ℕ = y - scale t * (t.cpb + l.bits + x) in cond (nat_lt 0 e) (max 5 ((e + (8 * scale t - 1)) / (8 * scale t))) 0

pub step : (t : Rate) (l : Ledger) (x f : ℕ) → IsRate t → Keeps t l → x ≤ available t l → f ≡ filler_bytes t l x → (scale t * (l.bits + (x + 8 * f)) ≤ arrived t l.units) × Keeps t (spent t l x f)
unfolding available filler_bytes spent
step t l x f is k small fill =
    let room : scale t * (l.bits + x) ≤ arrived t l.units = within (scale t) (arrived t l.units) l.bits x k.low small in
    let goes : Fills t l x (arrived t l.units + share_of t) (filler_by t l x (arrived t l.units + share_of t)) = filled (scale t) (arrived t l.units) l.bits x (share_of t) t.cpb (omega (arith, is.some)) room (share_fits t is) _ refl in
    let next = arrived_more t l.units in
    let goes' : Fills t l x (arrived t (l.units + 1)) (filler_by t l x (arrived t (l.units + 1))) = subst (λ y. Fills t l x y (filler_by t l x y)) (sym next) goes in
    let fills : Fills t l x (arrived t (l.units + 1)) f = subst (λ n. Fills t l x (arrived t (l.units + 1)) n) (sym fill) goes' in
    (fills.0, record { low = by (scale t * (l.bits + (x + 8 * f))) (arrived t l.units) (arrived t (l.units + 1)) (share_of t) fills.0 next; high = fills.1 })
  where
    by : (a b c s : ℕ) → a ≤ b → c ≡ b + s → a ≤ c
    by a b c s h e = omega (arith, h, e)

-- ---- a share comes with each picture

enough : (k a b x : ℕ) → 0 < k → k * x + k * b ≤ a → x ≤ (a - k * b) / k
enough k a b x some h =
    let turn : x * k ≤ a - k * b = omega (arith, h) in
    le-div x (a - k * b) k some turn

-- behind a unit that the ledger allows, a unit of at most a picture's share is allowed
pub share_is_there : (t : Rate) (l : Ledger) (x f y : ℕ) → IsRate t → Keeps t l → x ≤ available t l → f ≡ filler_bytes t l x → scale t * y ≤ share_of t → y ≤ available t (spent t l x f)
unfolding available spent
share_is_there t l x f y is k small fill few =
    let one = step t l x f is k small fill in
    let more = arrived_more t l.units in
    enough (scale t) (arrived t (l.units + 1)) (l.bits + (x + 8 * f)) y (omega (arith, is.some)) (by (scale t * (l.bits + (x + 8 * f))) (arrived t l.units) (arrived t (l.units + 1)) (share_of t) (scale t * y) one.0 more few)
  where
    by : (b a c s y : ℕ) → b ≤ a → c ≡ a + s → y ≤ s → y + b ≤ c
    by b a c s y h e g = omega (arith, h, e, g)

keeps : (t : Rate) (units : List (ℕ × ℕ)) (l : Ledger) → IsRate t → Keeps t l → Spends t l units → HoldsFrom t l.units l.bits (sizes_of units)
unfolding spent
keeps t [] l is k s = k.high
keeps t (u ∷ us) l is k s =
    let one = step t l u.0 u.1 is k s.0 s.1 in
    (one.0, k.high, keeps t us (spent t l u.0 u.1) is one.1 s.2)

-- at each place
low_at : (t : Rate) (xs : List ℕ) (m b n : ℕ) → HoldsFrom t m b xs → n < length xs → scale t * (b + sum_l (take (suc n) xs)) ≤ arrived t (m + n)
low_at t [] m b n h less = absurd (omega (arith, less))
low_at t (x ∷ xs) m b zero h less =
    let e : b + (x + 0) ≡ b + x = omega arith in let f : m + 0 ≡ m = omega arith in rw (e, f) h.0
low_at t (x ∷ xs) m b (suc n) h less =
    let e : b + (x + sum_l (take (suc n) xs)) ≡ b + x + sum_l (take (suc n) xs) = omega arith in
    let f : m + suc n ≡ m + 1 + n = omega arith in
    rw (e, f) (low_at t xs (m + 1) (b + x) n h.2 (omega (arith, less)))

high_at : (t : Rate) (xs : List ℕ) (m b n : ℕ) → HoldsFrom t m b xs → n ≤ length xs → arrived t (m + n) ≤ scale t * (t.cpb + (b + sum_l (take n xs)))
high_at t [] m b zero h less = let e : b + 0 ≡ b = omega arith in let f : m + 0 ≡ m = omega arith in rw (e, f) h
high_at t [] m b (suc n) h less = absurd (omega (arith, less))
high_at t (x ∷ xs) m b zero h less = let e : b + 0 ≡ b = omega arith in let f : m + 0 ≡ m = omega arith in rw (e, f) h.1
high_at t (x ∷ xs) m b (suc n) h less =
    let e : b + (x + sum_l (take n xs)) ≡ b + x + sum_l (take n xs) = omega arith in
    let f : m + suc n ≡ m + 1 + n = omega arith in
    rw (e, f) (high_at t xs (m + 1) (b + x) n h.2 (omega (arith, less)))

pub at_start : (t : Rate) (qp : ℕ) → IsRate t → Keeps t (fresh qp)
at_start t qp is = record { low = omega arith; high = high }
  where
    high : arrived t 0 ≤ scale t * (t.cpb + 0)
    high =
        let h : t.rate * t.delay * t.num ≤ 90000 * t.cpb * t.num = mul-le-mul_right t.num is.first in
        let p : t.rate * (t.delay * t.num + 90000 * t.den * 0) ≡ t.rate * t.delay * t.num = grind arith in
        let q : 90000 * t.num * (t.cpb + 0) ≡ 90000 * t.cpb * t.num = grind arith in
        omega (arith, h, p, q)

holds : (t : Rate) (xs : List ℕ) → HoldsFrom t 0 0 xs → BufferHolds t xs
holds t xs h = record {
  no_underflow = λ n less.
      let f : 0 + n ≡ n = omega arith in let g : 0 + sum_l (take (n + 1) xs) ≡ sum_l (take (n + 1) xs) = omega arith in let e : n + 1 ≡ suc n = omega arith in
      subst (λ k. scale t * k ≤ arrived t n) g (subst (λ k. scale t * (0 + sum_l (take k xs)) ≤ arrived t n) (sym e) (subst (λ k. scale t * (0 + sum_l (take (suc n) xs)) ≤ arrived t k) f (low_at t xs 0 0 n h less)));
  no_overflow = λ n less.
      let f : 0 + n ≡ n = omega arith in let g : 0 + sum_l (take n xs) ≡ sum_l (take n xs) = omega arith in
      subst (λ k. arrived t n ≤ scale t * (t.cpb + k)) g (subst (λ k. arrived t k ≤ scale t * (t.cpb + (0 + sum_l (take n xs)))) f (high_at t xs 0 0 n h less));
}

pub ledgers_keep_the_buffer : (t : Rate) (qp : ℕ) (units : List (ℕ × ℕ)) → IsRate t → Spends t (fresh qp) units → BufferHolds t (sizes_of units)
ledgers_keep_the_buffer t qp units is s = holds t (sizes_of units) (keeps t units (fresh qp) is (at_start t qp is) s)
