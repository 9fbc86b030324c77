-- The range, the shifts and the number through one bin and through all.
use Rattle.std.proofs.Common.{ℕ, zero, suc, ◌≡◌, ◌+◌, ◌-◌, ◌*◌, ◌^◌, ◌<◌, ◌≤◌, true, false, cond, nat_lt, List, [], ◌∷◌, ◌++◌, refl, ltb, ltb-true, ltb-false, arith, le_trans, le_refl, lit<, pow-suc}
use Rattle.std.specs.Bool.{beq}
use Rattle.std.proofs.lemmas.Bool.{cond_both}
use Rattle.enc_tables.specs.Arithmetic.{lps_range}
use Rattle.enc_tables.proofs.RangeTables.{Fits, lps_range_fits}
use Rattle.spec_cabac.specs.Bins.{Bin, is_end, EndsOnce}
use Rattle.spec_cabac.specs.Bins.Request.{Context, Bypass, Terminate}
use Rattle.spec_cabac.specs.Bins.Bin.{Answered}
use Rattle.spec_cabac.specs.Code.{Coded, renormalised, doubled, kept, taken, step, run}

-- ---- the shifts of a renormalisation

pub shifts-renormalised : (n : ℕ) (e : Coded) → e.shifts ≤ (renormalised n e).shifts
unfolding renormalised
shifts-renormalised zero e = omega arith
shifts-renormalised (suc n) e =
    elim (nat_lt e.range 256) as (λ t. e.shifts ≤ (cond t (renormalised n (doubled e)) e).shifts)
    [ true ↦ omega (arith, shifts-renormalised n (doubled e)) | false ↦ omega arith ]

-- ---- the range

abbrev pub Enough : ℕ → ℕ → Type 0
Enough zero r = 256 ≤ r
Enough (suc n) r = Enough n (2 * r)

pub range-renormalised : (n : ℕ) (e : Coded) → Enough n e.range → 256 ≤ (renormalised n e).range
unfolding renormalised
range-renormalised zero e h = h
range-renormalised (suc n) e h =
    cond_both (ltb e.range 256) (renormalised n (doubled e)) e (λ f. 256 ≤ f.range)
    (λ t. range-renormalised n (doubled e) h) (λ t. ltb-false e.range 256 t)

pub range-renormalised_below : (n : ℕ) (e : Coded) → e.range < 512 → (renormalised n e).range < 512
unfolding renormalised
range-renormalised_below zero e h = h
range-renormalised_below (suc n) e h =
    cond_both (ltb e.range 256) (renormalised n (doubled e)) e (λ f. f.range < 512)
    (λ t. range-renormalised_below n (doubled e) (omega (arith, ltb-true e.range 256 t))) (λ t. h)

pub seven : (r : ℕ) → 2 ≤ r → Enough 7 r
seven r h = omega arith

pub range-step : (b : Bin) (e : Coded) → is_end b ≡ false → 256 ≤ e.range → 256 ≤ (step b e).range
unfolding step
range-step (Answered (Context c) bit) e n h =
    let k : Fits (lps_range c.state e.range) = lps_range_fits c.state e.range in
    range-renormalised 7 (cond (beq bit c.mps) (kept (e.range - lps_range c.state e.range) e) (taken (e.range - lps_range c.state e.range) (lps_range c.state e.range) e))
    (cond_both (beq bit c.mps) (kept (e.range - lps_range c.state e.range) e) (taken (e.range - lps_range c.state e.range) (lps_range c.state e.range) e) (λ f. Enough 7 f.range)
    (λ t. omega arith) (λ t. omega arith))
range-step (Answered Bypass bit) e n h = h
range-step (Answered Terminate true) e n h = cc
range-step (Answered Terminate false) e n h = range-renormalised 7 (kept (e.range - 2) e) (omega arith)

pub range-step_below : (b : Bin) (e : Coded) → e.range < 512 → 256 ≤ e.range → (step b e).range < 512
unfolding step
range-step_below (Answered (Context c) bit) e h l =
    let k : Fits (lps_range c.state e.range) = lps_range_fits c.state e.range in
    range-renormalised_below 7 (cond (beq bit c.mps) (kept (e.range - lps_range c.state e.range) e) (taken (e.range - lps_range c.state e.range) (lps_range c.state e.range) e))
    (cond_both (beq bit c.mps) (kept (e.range - lps_range c.state e.range) e) (taken (e.range - lps_range c.state e.range) (lps_range c.state e.range) e) (λ f. f.range < 512)
    (λ t. omega arith) (λ t. omega arith))
range-step_below (Answered Bypass bit) e h l = h
range-step_below (Answered Terminate true) e h l = lit< tt
range-step_below (Answered Terminate false) e h l = range-renormalised_below 7 (kept (e.range - 2) e) (omega arith)

-- ---- the shifts

-- bins after bins
pub run-append : (xs ys : List Bin) (e : Coded) → run (xs ++ ys) e ≡ run ys (run xs e)
run-append [] ys e = refl
run-append (b ∷ xs) ys e = run-append xs ys (step b e)

pub shifts-step : (b : Bin) (e : Coded) → e.shifts ≤ (step b e).shifts
unfolding step
shifts-step (Answered (Context c) bit) e =
    let f : Coded = cond (beq bit c.mps) (kept (e.range - lps_range c.state e.range) e) (taken (e.range - lps_range c.state e.range) (lps_range c.state e.range) e) in
    le_trans (cond_both (beq bit c.mps) (kept (e.range - lps_range c.state e.range) e) (taken (e.range - lps_range c.state e.range) (lps_range c.state e.range) e) (λ f. e.shifts ≤ f.shifts) (λ t. le_refl e.shifts) (λ t. le_refl e.shifts))
    (shifts-renormalised 7 f)
shifts-step (Answered Bypass bit) e = omega arith
shifts-step (Answered Terminate true) e = omega arith
shifts-step (Answered Terminate false) e = shifts-renormalised 7 (kept (e.range - 2) e)

pub shifts-run : (bs : List Bin) (e : Coded) → e.shifts ≤ (run bs e).shifts
shifts-run [] e = omega arith
shifts-run (b ∷ bs) e = omega (arith, shifts-step b e, shifts-run bs (step b e))

-- ---- the final number fits its digits

pub record IsBounded (e : Coded) : Type 0 where
  pub bound : e.low + e.range ≤ 512 * 2 ^ e.shifts

IsBounded-doubled : (e : Coded) → IsBounded e → IsBounded (doubled e)
IsBounded-doubled e h = record { bound = omega (arith, pow-suc 2 e.shifts) }

pub IsBounded-renormalised : (n : ℕ) (e : Coded) → IsBounded e → IsBounded (renormalised n e)
unfolding renormalised
IsBounded-renormalised zero e h = h
IsBounded-renormalised (suc n) e h =
    cond_both (ltb e.range 256) (renormalised n (doubled e)) e (λ f. IsBounded f)
    (λ t. IsBounded-renormalised n (doubled e) (IsBounded-doubled e h)) (λ t. h)

pub IsBounded-step : (b : Bin) (e : Coded) → 256 ≤ e.range → IsBounded e → IsBounded (step b e)
unfolding step
IsBounded-step (Answered (Context c) bit) e r h =
    let k : Fits (lps_range c.state e.range) = lps_range_fits c.state e.range in
    IsBounded-renormalised 7 (cond (beq bit c.mps) (kept (e.range - lps_range c.state e.range) e) (taken (e.range - lps_range c.state e.range) (lps_range c.state e.range) e))
    (cond_both (beq bit c.mps) (kept (e.range - lps_range c.state e.range) e) (taken (e.range - lps_range c.state e.range) (lps_range c.state e.range) e) (λ f. IsBounded f)
    (λ t. record { bound = omega arith }) (λ t. record { bound = omega arith }))
IsBounded-step (Answered Bypass true) e r h = record { bound = omega (arith, pow-suc 2 e.shifts) }
IsBounded-step (Answered Bypass false) e r h = record { bound = omega (arith, pow-suc 2 e.shifts) }
IsBounded-step (Answered Terminate true) e r h = record { bound = omega arith }
IsBounded-step (Answered Terminate false) e r h = IsBounded-renormalised 7 (kept (e.range - 2) e) (record { bound = omega arith })

-- after the end the last two of the range are left
pub end_bounded : (bs : List Bin) → EndsOnce bs → (e : Coded) → 256 ≤ e.range → IsBounded e → (run bs e).low + 2 ≤ 512 * 2 ^ (run bs e).shifts
end_bounded [] k e r h = absurd k
end_bounded (Answered Terminate true ∷ []) k e r h = unfold step in omega arith
end_bounded (Answered Terminate true ∷ c ∷ cs) k e r h = cc
end_bounded (Answered Terminate false ∷ bs) k e r h = end_bounded bs k (step (Answered Terminate false) e) (range-step (Answered Terminate false) e refl r) (IsBounded-step (Answered Terminate false) e r h)
end_bounded (Answered Bypass bit ∷ bs) k e r h = end_bounded bs k (step (Answered Bypass bit) e) (range-step (Answered Bypass bit) e refl r) (IsBounded-step (Answered Bypass bit) e r h)
end_bounded (Answered (Context c) bit ∷ bs) k e r h =
    end_bounded bs k (step (Answered (Context c) bit) e) (range-step (Answered (Context c) bit) e refl r) (IsBounded-step (Answered (Context c) bit) e r h)
