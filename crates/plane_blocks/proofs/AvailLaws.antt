-- Macroblocks by column and row, and by address.
use Rattle.std.proofs.Common.{◌≡◌, ◌≤◌, ◌<◌, ◌+◌, ◌-◌, ◌*◌, ◌%◌, ◌==◌, ◌&&◌, nat_lt, nat_le, not, ℕ, zero, suc, Bool, true, false, inl, inr, refl, sym, ap, ◌∙◌, arith}
use Rattle.std.proofs.lemmas.Bool.{cases_lt, and_parts, ltb-true, lt-ltb, leb-true, le-leb, eqb-true}
use Rattle.std.proofs.Math.Nat.{mul-le-mul_right, mul-add-mod_self_right, mod-eq_of_lt}
use Rattle.spec_intra.specs.declared.Avail.{Avail}
use Rattle.spec_intra.specs.Near.{macroblock_avail}

bool_is : (a b : Bool) → (a ≡ true → b ≡ true) → (b ≡ true → a ≡ true) → a ≡ b
bool_is true true f g = refl
bool_is true false f g = sym (f refl)
bool_is false true f g = g refl
bool_is false false f g = refl

both : (a b : Bool) → a ≡ true → b ≡ true → a && b ≡ true
both true true f g = refl
both true false f g = g
both false b f g = f

is_not : (a : Bool) → (a ≡ true → ⊥) → not a ≡ true
is_not true f = absurd (f refl)
is_not false f = refl

not_is : (a : Bool) → not a ≡ true → a ≡ true → ⊥
not_is true f g = cc
not_is false f g = cc

nonzero : (n : ℕ) → 0 < n → not (n == 0) ≡ true
nonzero n h = is_not (n == 0) (λ e. let z = eqb-true n 0 e in absurd (omega arith))

positive : (n : ℕ) → not (n == 0) ≡ true → 0 < n
positive zero h = absurd (cc)
positive (suc n) h = omega arith

column_of : (r w c : ℕ) → c < w → (r * w + c) % w ≡ c
column_of r w c h = mul-add-mod_self_right r w c ∙ mod-eq_of_lt h

one_more : (f w : ℕ) → (f + 1) * w ≡ f * w + w
one_more f w = grind arith

rows_apart : (f r w : ℕ) → f < r → f * w + w ≤ r * w
rows_apart f r w h =
    let k : (f + 1) * w ≤ r * w = mul-le-mul_right w (let g : f + 1 ≤ r = omega arith in g) in
    omega (arith, one_more f w)

rows_from : (f r w c : ℕ) → c < w → f * w + w ≤ r * w + c → f < r
rows_from f r w c h k = elim (cases_lt f r) [
  | inl l ↦ l
  | inr g ↦ (let m : r * w ≤ f * w = mul-le-mul_right w g in absurd (omega arith))
]

pub left_is : (w f r c : ℕ) → c < w → f ≤ r → nat_lt 0 c ≡ (macroblock_avail w (f * w) (r * w + c)).left
left_is w f r c h g =
    let m = column_of r w c h in
    let k : f * w ≤ r * w = mul-le-mul_right w g in
    bool_is (nat_lt 0 c) _
    (λ t. let some : 0 < c = ltb-true 0 c t in
    both (not ((r * w + c) % w == 0)) (nat_le (f * w + 1) (r * w + c)) (rw m (nonzero c some)) (le-leb (f * w + 1) (r * w + c) (omega arith)))
    (λ t. let n = (and_parts (not ((r * w + c) % w == 0)) (nat_le (f * w + 1) (r * w + c)) t).0 in
    lt-ltb 0 c (positive c (rw m at n)))

pub above_is : (w f r c : ℕ) → c < w → nat_lt f r ≡ (macroblock_avail w (f * w) (r * w + c)).above
above_is w f r c h =
    bool_is (nat_lt f r) (nat_le (f * w + w) (r * w + c))
    (λ t. let k = rows_apart f r w (ltb-true f r t) in le-leb (f * w + w) (r * w + c) (omega arith))
    (λ t. lt-ltb f r (rows_from f r w c h (leb-true (f * w + w) (r * w + c) t)))

pub corner_is : (w f r c : ℕ) → c < w → (nat_lt 0 c && nat_lt f r) ≡ (macroblock_avail w (f * w) (r * w + c)).corner
corner_is w f r c h =
    let m = column_of r w c h in
    bool_is (nat_lt 0 c && nat_lt f r) _
    (λ t. let p = and_parts (nat_lt 0 c) (nat_lt f r) t in
    let some : 0 < c = ltb-true 0 c p.0 in
    let k = rows_apart f r w (ltb-true f r p.1) in
    both (not ((r * w + c) % w == 0)) (nat_le (f * w + w + 1) (r * w + c)) (rw m (nonzero c some)) (le-leb (f * w + w + 1) (r * w + c) (omega arith)))
    (λ t. let p = and_parts (not ((r * w + c) % w == 0)) (nat_le (f * w + w + 1) (r * w + c)) t in
    let k = leb-true (f * w + w + 1) (r * w + c) p.1 in
    both (nat_lt 0 c) (nat_lt f r) (lt-ltb 0 c (positive c (rw m at p.0))) (lt-ltb f r (rows_from f r w c h (omega arith))))

not_last : (r w c : ℕ) → c < w → not ((r * w + c + 1) % w == 0) ≡ true → c + 1 < w
not_last r w c h n = elim (cases_lt (c + 1) w) [
  | inl l ↦ l
  | inr g ↦ (let last : c + 1 ≡ w = omega arith in
      let e : r * w + c + 1 ≡ (r + 1) * w + 0 = omega (arith, one_more r w) in
      let z : (r * w + c + 1) % w ≡ 0 = ap (λ (a : ℕ). a % w) e ∙ column_of (r + 1) w 0 (omega arith) in
      absurd (not_is (0 == 0) (rw z at n) refl))
]

pub beyond_is : (w f r c : ℕ) → c < w → (nat_lt f r && nat_lt c (w - 1)) ≡ (macroblock_avail w (f * w) (r * w + c)).above_right
beyond_is w f r c h =
    bool_is (nat_lt f r && nat_lt c (w - 1)) _
    (λ t. let p = and_parts (nat_lt f r) (nat_lt c (w - 1)) t in
    let more : c < w - 1 = ltb-true c (w - 1) p.1 in
    let k = rows_apart f r w (ltb-true f r p.0) in
    let same : r * w + c + 1 ≡ r * w + (c + 1) = omega arith in
    let m : (r * w + c + 1) % w ≡ c + 1 = ap (λ (a : ℕ). a % w) same ∙ column_of r w (c + 1) (omega arith) in
    both (not ((r * w + c + 1) % w == 0)) (nat_le (f * w + w) (r * w + c + 1)) (rw m (nonzero (c + 1) (omega arith))) (le-leb (f * w + w) (r * w + c + 1) (omega arith)))
    (λ t. let p = and_parts (not ((r * w + c + 1) % w == 0)) (nat_le (f * w + w) (r * w + c + 1)) t in
    let more = not_last r w c h p.0 in
    let k = leb-true (f * w + w) (r * w + c + 1) p.1 in
    both (nat_lt f r) (nat_lt c (w - 1)) (lt-ltb f r (rows_from f r w (c + 1) more (omega arith))) (lt-ltb c (w - 1) (omega arith)))

pub avail_is : (w f r c : ℕ) (corner beyond : Bool) → c < w → f ≤ r → corner ≡ (nat_lt 0 c && nat_lt f r) → beyond ≡ (nat_lt f r && nat_lt c (w - 1))
    → (let a : Avail = record { left = nat_lt 0 c; above = nat_lt f r; corner = corner; above_right = beyond } in a ≡ macroblock_avail w (f * w) (r * w + c))
avail_is w f r c corner beyond h g is_corner is_beyond =
    let l = left_is w f r c h g in
    let a = above_is w f r c h in
    let k = is_corner ∙ corner_is w f r c h in
    let b = is_beyond ∙ beyond_is w f r c h in
    ap (λ (x : Bool). made x (nat_lt f r) corner beyond) l
    ∙ ap (λ (x : Bool). made (macroblock_avail w (f * w) (r * w + c)).left x corner beyond) a
    ∙ ap (λ (x : Bool). made (macroblock_avail w (f * w) (r * w + c)).left (macroblock_avail w (f * w) (r * w + c)).above x beyond) k
    ∙ ap (λ (x : Bool). made (macroblock_avail w (f * w) (r * w + c)).left (macroblock_avail w (f * w) (r * w + c)).above (macroblock_avail w (f * w) (r * w + c)).corner x) b
  where
    made : Bool → Bool → Bool → Bool → Avail
    made l a k b = record { left = l; above = a; corner = k; above_right = b }
