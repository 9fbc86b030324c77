-- What the numbers of the ledger mean: as many bits as are there, and as little filler as does.
use Rattle.std.proofs.Common.{◌⊎◌, inl, inr, ℕ, ◌≡◌, ◌+◌, ◌-◌, ◌*◌, ◌/◌, ◌<◌, ◌≤◌, max, min, Bool, true, false, cond, refl, subst, arith}
use Rattle.std.specs.Prelude.{nat_lt}
use Rattle.std.proofs.lemmas.Bool.Decides.{nat_tests}
use Rattle.std.proofs.lemmas.Bool.{cases_lt}
use Rattle.std.proofs.Math.Nat.{div-mul-le_self, lt-div-mul-add, mul-le-mul_right, div-le_of_le-mul}
use Rattle.std.proofs.lemmas.Nat.{le-div}
use Rattle.spec_buffer.specs.Buffer.{Rate, scale, arrived, IsRate}
use Rattle.enc_tables.specs.declared.records.SliceKind.{SliceKind}
use Rattle.enc_tables.specs.declared.records.SliceKind.TheVariants.{I, P, B}
use Rattle.spec_buffer.specs.Ledger.{Ledger, Keeps, available, excess, filler_bytes, CanBeFiller, IsLeastFiller, base_after, start_qp}
use Rattle.spec_buffer.proofs.Numbers.{within}
use Rattle.spec_buffer.proofs.Holds.{step}

three : (k c b x : ℕ) → k * (c + b + x) ≡ k * c + k * b + k * x
three k c b x = grind arith

four : (k c b x f : ℕ) → k * (c + b + (x + 8 * f)) ≡ k * c + k * b + k * x + f * (8 * k)
four k c b x f = grind arith

-- ---- over plain numbers, as in the file of numbers; a has come until the next unit

no_excess : (k a b x c : ℕ) → a - k * (c + b + x) ≡ 0 → a ≤ k * (c + b + (x + 8 * 0))
no_excess k a b x c e = let p = three k c b x in let q = four k c b x 0 in omega (arith, e, p, q)

some_excess : (k a b x c : ℕ) → 0 < a - k * (c + b + x) → a ≤ k * (c + b + (x + 8 * 0)) → ⊥
some_excess k a b x c e h = let p = three k c b x in let q = four k c b x 0 in omega (arith, e, p, q, h)

ended : (k a b x c m f : ℕ) → a - k * (c + b + x) ≤ m * (8 * k) → m ≤ f → a ≤ k * (c + b + (x + 8 * f))
ended k a b x c m f e h =
    let p = three k c b x in let q = four k c b x f in let r : m * (8 * k) ≤ f * (8 * k) = mul-le-mul_right (8 * k) h in omega (arith, e, p, q, r)

excess_below : (k a b x c g : ℕ) → a ≤ k * (c + b + (x + 8 * g)) → a - k * (c + b + x) ≤ g * (8 * k)
excess_below k a b x c g h = let p = three k c b x in let q = four k c b x g in omega (arith, h, p, q)

-- the quotient, rounded up, is the least that does
not_more : (d m e g : ℕ) → 0 < d → m * d ≤ e + (d - 1) → e ≤ g * d → m ≤ g
not_more d m e g some h k = by (cases_lt g m)
  where
    by : (g < m) ⊎ (m ≤ g) → m ≤ g
    by (inr less) = less
    by (inl more) =
        let p : (g + 1) * d ≤ m * d = mul-le-mul_right d (let turn : g + 1 ≤ m = omega (arith, more) in turn) in
        let q : (g + 1) * d ≡ g * d + d = grind arith in
        absurd (omega (arith, h, k, p, q, some))

rounded_up : (d e : ℕ) → 0 < d → (e ≤ (e + (d - 1)) / d * d) × ((e + (d - 1)) / d * d ≤ e + (d - 1))
rounded_up d e some =
    let up : e + (d - 1) < (e + (d - 1)) / d * d + d = lt-div-mul-add some in
    let down : (e + (d - 1)) / d * d ≤ e + (d - 1) = div-mul-le_self (e + (d - 1)) d in
    (omega (arith, up, some), down)

-- the filler of an excess
filler_by : ℕ → ℕ → Bool → ℕ
filler_by k e t = cond t (max 5 ((e + (8 * k - 1)) / (8 * k))) 0

-- whether so much filler does
Does : (k a b x c f : ℕ) → Type 0
Does k a b x c f = a ≤ k * (c + b + (x + 8 * f))

least_by : (k a b x c : ℕ) → 0 < k → (t : Bool) → nat_lt 0 (a - k * (c + b + x)) ≡ t
    → CanBeFiller (filler_by k (a - k * (c + b + x)) t) × Does k a b x c (filler_by k (a - k * (c + b + x)) t) × ((g : ℕ) → CanBeFiller g → Does k a b x c g → filler_by k (a - k * (c + b + x)) t ≤ g)
unfolding filler_by Does
least_by k a b x c some false t =
    let none : a - k * (c + b + x) ≡ 0 = grind (arith, nat_tests) in
    (inl refl, no_excess k a b x c none, λ g form does. omega arith)
least_by k a b x c some true t =
    let e : ℕ = a - k * (c + b + x) in
    let over : 0 < a - k * (c + b + x) = grind (arith, nat_tests) in
    let m : ℕ = (e + (8 * k - 1)) / (8 * k) in
    let up = rounded_up (8 * k) e (omega (arith, some)) in
    (inr (omega arith), ended k a b x c m (max 5 m) up.0 (omega arith), λ g form does. by form (excess_below k a b x c g does) does m up.1)
  where
    by : {g : ℕ} → CanBeFiller g → a - k * (c + b + x) ≤ g * (8 * k) → a ≤ k * (c + b + (x + 8 * g)) → (m : ℕ) → m * (8 * k) ≤ a - k * (c + b + x) + (8 * k - 1) → max 5 m ≤ g
    by (inl z) few does m h =
        let is : a ≤ k * (c + b + (x + 8 * 0)) = subst (λ n. a ≤ k * (c + b + (x + 8 * n))) z does in
        let over : 0 < a - k * (c + b + x) = grind (arith, nat_tests) in absurd (some_excess k a b x c over is)
    by (inr five) few does m h =
        let low : m ≤ _ = not_more (8 * k) m (a - k * (c + b + x)) _ (omega (arith, some)) h few in omega (arith, low, five)

pub fillers_are_least : (t : Rate) (l : Ledger) (bits : ℕ) → 1 ≤ t.num → IsLeastFiller t l bits (filler_bytes t l bits)
unfolding filler_bytes filler_by Does
fillers_are_least t l bits some =
    let by = least_by (scale t) (arrived t (l.units + 1)) l.bits bits t.cpb (omega (arith, some)) (nat_lt 0 (excess t l bits)) refl in
    record { form = by.0; ends = by.1; least = by.2 }

-- ---- what is there

pub available_is_there : (t : Rate) (l : Ledger) (bits : ℕ) → Keeps t l → bits ≤ available t l → scale t * (l.bits + bits) ≤ arrived t l.units
unfolding available
available_is_there t l bits k h = within (scale t) (arrived t l.units) l.bits bits k.low h

pub there_is_available : (t : Rate) (l : Ledger) (bits : ℕ) → 1 ≤ t.num → scale t * (l.bits + bits) ≤ arrived t l.units → bits ≤ available t l
unfolding available
there_is_available t l bits some h = by (scale t) (arrived t l.units) l.bits bits (omega (arith, some)) h
  where
    by : (k a b x : ℕ) → 0 < k → k * (b + x) ≤ a → x ≤ (a - k * b) / k
    by k a b x some h =
        let p : k * (b + x) ≡ k * b + x * k = grind arith in
        let q : x * k ≤ a - k * b = omega (arith, h, p) in
        le-div x (a - k * b) k some q

-- the buffer's size bounds it
pub available_fits : (t : Rate) (l : Ledger) → 1 ≤ t.num → Keeps t l → available t l ≤ t.cpb
unfolding available
available_fits t l some k = by (scale t) (arrived t l.units) l.bits t.cpb k.high
  where
    by : (k a b c : ℕ) → a ≤ k * (c + b) → (a - k * b) / k ≤ c
    by k a b c h =
        let p : k * (c + b) ≡ k * c + k * b = grind arith in
        let q : a - k * b ≤ k * c = omega (arith, h, p) in
        div-le_of_le-mul k q

-- with its filler, too, a unit has at most what is there
pub filler_fits : (t : Rate) (l : Ledger) (bits : ℕ) → IsRate t → Keeps t l → bits ≤ available t l → bits + 8 * filler_bytes t l bits ≤ available t l
filler_fits t l bits is k small =
    there_is_available t l (bits + 8 * filler_bytes t l bits) is.some (step t l bits (filler_bytes t l bits) is k small refl).0

-- ---- quantisation parameters

pub base_fits : (t : Rate) (qp bits : ℕ) → qp ≤ 51 → base_after t qp bits ≤ 51
unfolding base_after
base_fits t qp bits h = by (nat_lt (5 * (t.rate * t.den)) (4 * (bits * t.num))) (nat_lt (4 * (bits * t.num)) (3 * (t.rate * t.den)))
  where
    by : (a b : Bool) → cond a (min 51 (qp + 1)) (cond b (qp - 1) qp) ≤ 51
    by true b = omega arith
    by false true = omega (arith, h)
    by false false = h

pub start_fits : (kind : SliceKind) (base : ℕ) → start_qp kind base ≤ 51
start_fits I base = omega arith
start_fits P base = omega arith
start_fits B base = omega arith
