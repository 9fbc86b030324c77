-- The doublings at once, and a byte of the register.
use Rattle.std.proofs.Common.{ℕ, zero, suc, ◌≡◌, ◌+◌, ◌-◌, ◌*◌, ◌/◌, ◌%◌, ◌^◌, ◌<◌, ◌≤◌, ◌==◌, Bool, true, false, cond, nat_lt, ltb, min, refl, sym, ap, ◌∙◌, arith, pow-suc, pow-add, pow_pos, subst, le_refl, ltb-true, ltb-false, mod-lt, ◌&&◌}
use Rattle.std.proofs.lemmas.Bool.{and_parts}
use Rattle.std.proofs.lemmas.Bool.Decides.{nat_tests}
use Rattle.std.proofs.lemmas.Nat.{shr_split, mul-le}
use Rattle.std.specs.Int.Count.{count_leading_zeros}
use Rattle.spec_cabac.specs.Code.{Coded, renormalised, doubled}
use Rattle.spec_cabac.proofs.Ranges.{IsBounded, IsBounded-renormalised, range-renormalised_below}
use Rattle.cabac_coder.specs.Emitted.{Emitted}
use Rattle.cabac_coder.specs.Whole.{whole, moved, bypassing, doublings_of}

-- ---- the doublings

pub same_coded : {a b s t r q : ℕ} → a ≡ b → s ≡ t → r ≡ q →
    (let e : Coded = record { low = a; shifts = s; range = r } in e) ≡ record { low = b; shifts = t; range = q }
same_coded p q w = cc

abbrev pub scaled_by : ℕ → Coded → Coded
scaled_by n e = record { low = e.low * 2 ^ n; shifts = e.shifts + n; range = e.range * 2 ^ n }

scaled_once : (n : ℕ) (e : Coded) → scaled_by n (doubled e) ≡ scaled_by (suc n) e
scaled_once n e = same_coded (rw (pow-suc 2 n) (omega arith)) (omega arith) (rw (pow-suc 2 n) (omega arith))

scaled_none : (e : Coded) → e ≡ scaled_by 0 e
scaled_none e = same_coded (omega arith) (omega arith) (omega arith)

pub renormalised-is : (n : ℕ) (e : Coded) → renormalised n e ≡ scaled_by (doublings_of n e.range) e
unfolding renormalised doublings_of
renormalised-is zero e = scaled_none e
renormalised-is (suc n) e =
    elim (nat_lt e.range 256) as (λ t. cond t (renormalised n (doubled e)) e ≡ scaled_by (cond t (suc (doublings_of n (2 * e.range))) 0) e)
    [ true ↦ renormalised-is n (doubled e) ∙ scaled_once (doublings_of n (2 * e.range)) e | false ↦ scaled_none e ]

-- ---- how many, by the leading zeros

abbrev counts : ℕ → Bool
counts r = cond (nat_lt r 2) true (doublings_of 7 r + 23 == count_leading_zeros 32 r)

all_count : ℕ → Bool
all_count zero = true
all_count (suc n) = counts n && all_count n

all_of_them : all_count 512 ≡ true
unfolding all_count doublings_of count_leading_zeros
all_of_them = refl

counts_below : (n r : ℕ) → r < n → all_count n ≡ true → counts r ≡ true
unfolding all_count
counts_below zero r l h = absurd (omega arith)
counts_below (suc n) r l h =
    (elim (ltb r n) as (λ t. ltb r n ≡ t → counts r ≡ true) [
      | true ↦ λ e. counts_below n r (ltb-true r n e) (and_parts (counts n) (all_count n) h).1
      | false ↦ λ e. let q : n ≡ r = omega (arith, ltb-false r n e) in subst (λ (k : ℕ). counts k ≡ true) q (and_parts (counts n) (all_count n) h).0
    ]) refl

counted : (r d z : ℕ) → 2 ≤ r → cond (nat_lt r 2) true (d == z) ≡ true → d ≡ z
counted r d z l h = grind (arith, nat_tests)

pub leading_doublings : (r : ℕ) → 2 ≤ r → r < 512 → doublings_of 7 r + 23 ≡ count_leading_zeros 32 r
leading_doublings r l h = counted r (doublings_of 7 r + 23) (count_leading_zeros 32 r) l (counts_below 512 r h all_of_them)

pub doublings_few : (n r : ℕ) → doublings_of n r ≤ n
unfolding doublings_of
doublings_few zero r = omega arith
doublings_few (suc n) r =
    elim (nat_lt r 256) as (λ t. cond t (suc (doublings_of n (2 * r))) 0 ≤ suc n) [ true ↦ omega (arith, doublings_few n (2 * r)) | false ↦ omega arith ]

-- ---- a byte leaves the register

cancel : (a b q : ℕ) → a * q < b * q → a < b
cancel a b q h =
    (elim (ltb a b) as (λ t. ltb a b ≡ t → a < b) [
      | true ↦ λ e. ltb-true a b e
      | false ↦ λ e. absurd (omega (arith, mul-le b q a q (ltb-false a b e) (le_refl q)))
    ]) refl

-- the places of the register by the place of the byte's last digit
pub places : (q : ℕ) → 8 ≤ q → (2 ^ (q + 1) ≡ 512 * 2 ^ (q - 8)) × (2 ^ q ≡ 256 * 2 ^ (q - 8))
places q h =
    let e : q ≡ 8 + (q - 8) = omega arith in
    let f : q + 1 ≡ 9 + (q - 8) = omega arith in
    (ap (λ n. 2 ^ n) f ∙ pow-add 2 9 (q - 8), ap (λ n. 2 ^ n) e ∙ pow-add 2 8 (q - 8))

pub digit_within : (low q d : ℕ) → d ≡ min (low / 2 ^ (q + 1)) 510 → d * 2 ^ (q + 1) ≤ low
digit_within low q d h =
    let l : d ≤ low / 2 ^ (q + 1) = omega arith in
    omega (arith, mul-le d (2 ^ (q + 1)) (low / 2 ^ (q + 1)) (2 ^ (q + 1)) l (le_refl (2 ^ (q + 1))), shr_split low (q + 1))

pub digit_bound : (N count low range q d : ℕ) → 8 ≤ q → 0 < range → 512 * (2 ^ q * N) + low + range ≤ 512 * 2 ^ (count + q) → d ≡ min (low / 2 ^ (q + 1)) 510 → 256 ≤ d →
    N + 1 < 2 ^ count
digit_bound N count low range q d h r b e k =
    let w : d * 2 ^ (q + 1) ≤ low = digit_within low q d e in
    let m : 256 * 2 ^ (q + 1) ≤ d * 2 ^ (q + 1) = mul-le 256 (2 ^ (q + 1)) d (2 ^ (q + 1)) k (le_refl (2 ^ (q + 1))) in
    let p : 2 ^ (count + q) ≡ 2 ^ count * 2 ^ q = pow-add 2 count q in
    let s : 2 ^ (q + 1) ≡ 2 * 2 ^ q = omega (arith, (places q h).0, (places q h).1) in
    cancel (N + 1) (2 ^ count) (2 ^ q) (omega arith)

pub byte_same : (N low q d : ℕ) → 8 ≤ q → d * 2 ^ (q + 1) ≤ low → 512 * (2 ^ (q - 8) * (256 * N + d)) + (low - d * 2 ^ (q + 1)) ≡ 512 * (2 ^ q * N) + low
byte_same N low q d h w =
    let s : 2 ^ (q + 1) ≡ 512 * 2 ^ (q - 8) = (places q h).0 in
    let t : 2 ^ q ≡ 256 * 2 ^ (q - 8) = (places q h).1 in
    let v : d * 2 ^ (q + 1) ≡ d * (512 * 2 ^ (q - 8)) = ap (λ x. d * x) s in
    rw t (omega arith)

pub byte_register : (low range q d : ℕ) → 8 ≤ q → range < 512 → low + range ≤ 1024 * 2 ^ q → d ≡ min (low / 2 ^ (q + 1)) 510 →
    low - d * 2 ^ (q + 1) + range ≤ 1024 * 2 ^ (q - 8)
byte_register low range q d h r b e =
    let s : 2 ^ (q + 1) ≡ 512 * 2 ^ (q - 8) = (places q h).0 in
    let t : 2 ^ q ≡ 256 * 2 ^ (q - 8) = (places q h).1 in
    let v : d * 2 ^ (q + 1) ≡ d * (512 * 2 ^ (q - 8)) = ap (λ x. d * x) s in
    let y : low / 2 ^ (q + 1) * 2 ^ (q + 1) + low % 2 ^ (q + 1) ≡ low = shr_split low (q + 1) in
    let z : low % 2 ^ (q + 1) < 2 ^ (q + 1) = mod-lt low (pow_pos (q + 1)) in
    let o : 1 ≤ 2 ^ (q - 8) = pow_pos (q - 8) in
    (elim (ltb (low / 2 ^ (q + 1)) 511) as (λ c. ltb (low / 2 ^ (q + 1)) 511 ≡ c → low - d * 2 ^ (q + 1) + range ≤ 1024 * 2 ^ (q - 8)) [
      | true ↦ λ k. let j : d ≡ low / 2 ^ (q + 1) = omega (arith, ltb-true (low / 2 ^ (q + 1)) 511 k) in
          let i : d * 2 ^ (q + 1) ≡ low / 2 ^ (q + 1) * 2 ^ (q + 1) = ap (λ x. x * 2 ^ (q + 1)) j in omega arith
      | false ↦ λ k. let j : d ≡ 510 = omega (arith, ltb-false (low / 2 ^ (q + 1)) 511 k) in
          let i : d * 2 ^ (q + 1) ≡ 510 * 2 ^ (q + 1) = ap (λ x. x * 2 ^ (q + 1)) j in omega arith
    ]) refl

-- ---- one step of the register

whole_scaled : (b : Emitted) (low add range r q n : ℕ) → whole b ((low + add) * 2 ^ n) (range * 2 ^ n) (q + n) ≡ scaled_by n (moved add range (whole b low r q))
whole_scaled b low add range r q n = same_coded (rw (pow-add 2 q n) (omega arith)) (omega arith) refl

pub narrowed_whole : (b : Emitted) (low add range r q n : ℕ) → n ≡ doublings_of 7 range →
    whole b ((low + add) * 2 ^ n) (range * 2 ^ n) (q + n) ≡ renormalised 7 (moved add range (whole b low r q))
narrowed_whole b low add range r q n h =
    whole_scaled b low add range r q n ∙ ap (λ k. scaled_by k (moved add range (whole b low r q))) h ∙ sym (renormalised-is 7 (moved add range (whole b low r q)))

pub narrowed_register : (low add range r q n : ℕ) → add + range ≤ r → low + r ≤ 1024 * 2 ^ q → (low + add) * 2 ^ n + range * 2 ^ n ≤ 1024 * 2 ^ (q + n)
narrowed_register low add range r q n w h =
    let l : low + add + range ≤ 1024 * 2 ^ q = omega arith in
    rw (pow-add 2 q n) (omega (arith, mul-le (low + add + range) (2 ^ n) (1024 * 2 ^ q) (2 ^ n) l (le_refl (2 ^ n))))

pub narrowed_bounded : (b : Emitted) (low add range r q n : ℕ) → n ≡ doublings_of 7 range → add + range ≤ r → IsBounded (whole b low r q) →
    IsBounded (whole b ((low + add) * 2 ^ n) (range * 2 ^ n) (q + n))
narrowed_bounded b low add range r q n h w k =
    subst (λ (e : Coded). IsBounded e) (sym (narrowed_whole b low add range r q n h))
    (IsBounded-renormalised 7 (moved add range (whole b low r q)) (record { bound = omega (arith, k.bound) }))

pub narrowed_most : (b : Emitted) (low add range r q n : ℕ) → n ≡ doublings_of 7 range → range < 512 → range * 2 ^ n < 512
narrowed_most b low add range r q n h l =
    let e : range * 2 ^ n ≡ (renormalised 7 (moved add range (whole b low r q))).range = ap (λ (f : Coded). f.range) (narrowed_whole b low add range r q n h) in
    omega (arith, range-renormalised_below 7 (moved add range (whole b low r q)) l)

pub halved_whole : (b : Emitted) (low range q : ℕ) (bit : Bool) → whole b (2 * low + cond bit range 0) range (q + 1) ≡ bypassing bit (whole b low range q)
halved_whole b low range q bit =
    same_coded (rw (pow-add 2 q 1) (omega arith)) (omega arith) refl

added : (bit : Bool) (range : ℕ) → cond bit range 0 ≤ range
added true range = omega arith
added false range = omega arith

pub halved_bounded : (b : Emitted) (low range q : ℕ) (bit : Bool) → IsBounded (whole b low range q) → IsBounded (whole b (2 * low + cond bit range 0) range (q + 1))
halved_bounded b low range q bit k =
    let a : cond bit range 0 ≤ range = added bit range in
    let e : b.count + (q + 1) ≡ b.count + q + 1 = omega arith in
    let p : 2 ^ (b.count + (q + 1)) ≡ 2 ^ (b.count + q) * 2 = ap (λ n. 2 ^ n) e ∙ pow-add 2 (b.count + q) 1 in
    let s : 2 ^ (q + 1) ≡ 2 ^ q * 2 = pow-add 2 q 1 in
    record { bound = rw (p, s) (omega (arith, k.bound)) }
