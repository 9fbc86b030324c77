-- The arithmetic code of bins is short: no bin doubles the range more than seven times.
use Rattle.std.proofs.Common.{ℕ, zero, suc, ◌≡◌, ◌+◌, ◌-◌, ◌*◌, ◌≤◌, Bool, true, false, List, [], ◌∷◌, length, refl, ap, arith}
use Rattle.std.specs.Prelude.{cond, nat_lt}
use Rattle.std.specs.Bool.{beq}
use Rattle.enc_tables.specs.declared.records.CtxState.{CtxState}
use Rattle.enc_tables.specs.Arithmetic.{lps_range}
use Rattle.spec_cabac.specs.Bins.{Bin as Decision}
use Rattle.spec_cabac.specs.Bins.Request.{Context, Bypass, Terminate}
use Rattle.spec_cabac.specs.Bins.Bin.{Answered}
use Rattle.spec_cabac.specs.Code.{Coded, coded_start, doubled, renormalised, kept, taken, step, run, arith_code}
use Rattle.spec_cabac.proofs.Law.{length-code}
use Rattle.spec_syntax.specs.declared.Bin.{Bin}
use Rattle.spec_slice_data.specs.Decoding.{after}
use Rattle.spec_slice_data.specs.Coding.{asked}

renormalised_most : (n : ℕ) (e : Coded) → (renormalised n e).shifts ≤ e.shifts + n
unfolding renormalised
renormalised_most zero e = omega arith
renormalised_most (suc n) e = go (nat_lt e.range 256) (renormalised_most n (doubled e))
  where
    go : (t : Bool) → (renormalised n (doubled e)).shifts ≤ suc e.shifts + n → (cond t (renormalised n (doubled e)) e).shifts ≤ e.shifts + suc n
    go true h = omega (arith, h)
    go false h = omega arith

-- either part of the range
parted : (t : Bool) (cut size : ℕ) (e : Coded) → (cond t (kept cut e) (taken cut size e)).shifts ≡ e.shifts
parted true cut size e = refl
parted false cut size e = refl

step_most : (b : Decision) (e : Coded) → (step b e).shifts ≤ e.shifts + 7
unfolding step
step_most (Answered (Context c) bit) e =
    let size = lps_range c.state e.range in
    let cut = e.range - size in
    omega (arith, renormalised_most 7 (cond (beq bit c.mps) (kept cut e) (taken cut size e)), parted (beq bit c.mps) cut size e)
step_most (Answered Bypass bit) e = omega arith
step_most (Answered Terminate true) e = omega arith
step_most (Answered Terminate false) e = renormalised_most 7 (kept (e.range - 2) e)

run_most : (bs : List Decision) (e : Coded) → (run bs e).shifts ≤ e.shifts + 7 * length bs
run_most [] e = omega arith
run_most (b ∷ bs) e = omega (arith, step_most b e, run_most bs (step b e))

asked_length : (states : List CtxState) (bins : List Bin) → length (asked states bins) ≡ length bins
unfolding asked
asked_length states [] = refl
asked_length states (b ∷ bins) = ap suc (asked_length (after states b) bins)

-- with the bits that end it
pub code_most : (states : List CtxState) (bins : List Bin) → length (arith_code (asked states bins)) ≤ 7 * length bins + 9
code_most states bins = omega (arith, length-code (asked states bins), run_most (asked states bins) coded_start, asked_length states bins)
