-- The first trial that fits.
use Rattle.std.proofs.Common.{ℕ, zero, suc, ◌+◌, ◌≡◌, ◌≤◌, ◌<◌, Bool, true, false, cond, List, [], ◌∷◌, ◌++◌, map, Option, Some, None, refl, ap, ap₂, ◌∙◌, arith}
use Rattle.std.specs.Prelude.{nat_le}
use Rattle.std.proofs.lemmas.Bool.Decides.{nat_tests}
use Rattle.spec_coding.specs.Trials.{Trial, plain_trial, steps_to_51, first_fit}

at_most : (a b : ℕ) → a ≤ b → nat_le a b ≡ true
at_most a b h = grind (arith, nat_tests)

more_than : (a b : ℕ) → b < a → nat_le a b ≡ false
more_than a b h = grind (arith, nat_tests)

pub fits_here : (bits : Trial → ℕ) (have : ℕ) (t : Trial) (ts : List Trial) → bits t ≤ have → first_fit bits have (t ∷ ts) ≡ Some t
unfolding first_fit
fits_here bits have t ts h = ap (λ b. cond b (Some t) (first_fit bits have ts)) (at_most (bits t) have h)

pub fits_later : (bits : Trial → ℕ) (have : ℕ) (t : Trial) (ts : List Trial) → have < bits t → first_fit bits have (t ∷ ts) ≡ first_fit bits have ts
unfolding first_fit
fits_later bits have t ts h = ap (λ b. cond b (Some t) (first_fit bits have ts)) (more_than (bits t) have h)

pub fits_nothing : (bits : Trial → ℕ) (have : ℕ) → first_fit bits have [] ≡ None
unfolding first_fit
fits_nothing bits have = refl

pub fits_in_front : (bits : Trial → ℕ) (have : ℕ) (ts us : List Trial) (t : Trial) → first_fit bits have ts ≡ Some t → first_fit bits have (ts ++ us) ≡ Some t
unfolding first_fit
fits_in_front bits have [] us t e = absurd cc
fits_in_front bits have (x ∷ ts) us t e = by (nat_le (bits x) have) e (fits_in_front bits have ts us t)
  where
    by : (b : Bool) → cond b (Some x) (first_fit bits have ts) ≡ Some t → (first_fit bits have ts ≡ Some t → first_fit bits have (ts ++ us) ≡ Some t) → cond b (Some x) (first_fit bits have (ts ++ us)) ≡ Some t
    by true e ih = e
    by false e ih = ih e

pub fits_behind : (bits : Trial → ℕ) (have : ℕ) (ts us : List Trial) → first_fit bits have ts ≡ None → first_fit bits have (ts ++ us) ≡ first_fit bits have us
unfolding first_fit
fits_behind bits have [] us e = refl
fits_behind bits have (x ∷ ts) us e = by (nat_le (bits x) have) e (fits_behind bits have ts us)
  where
    by : (b : Bool) → cond b (Some x) (first_fit bits have ts) ≡ None → (first_fit bits have ts ≡ None → first_fit bits have (ts ++ us) ≡ first_fit bits have us) → cond b (Some x) (first_fit bits have (ts ++ us)) ≡ first_fit bits have us
    by true e ih = absurd cc
    by false e ih = ih e

pub none_fits : (bits : Trial → ℕ) (have : ℕ) (ts : List Trial) → ((t : Trial) → have < bits t) → first_fit bits have ts ≡ None
none_fits bits have [] h = fits_nothing bits have
none_fits bits have (t ∷ ts) h = fits_later bits have t ts (h t) ∙ none_fits bits have ts h

pub fits_same : (bits cits : Trial → ℕ) (have : ℕ) (ts : List Trial) → ((t : Trial) → bits t ≡ cits t) → first_fit bits have ts ≡ first_fit cits have ts
unfolding first_fit
fits_same bits cits have [] h = refl
fits_same bits cits have (t ∷ ts) h =
    ap₂ (λ (n : ℕ) (o : Option Trial). cond (nat_le n have) (Some t) o) (h t) (fits_same bits cits have ts h)

-- ---- trials with rising quantisation parameters

pub step_next : (bits : Trial → ℕ) (have m q : ℕ) → have < bits (plain_trial q) → first_fit bits have (map plain_trial (steps_to_51 (suc m) q)) ≡ first_fit bits have (map plain_trial (steps_to_51 m (q + 3)))
unfolding steps_to_51
step_next bits have m q h = fits_later bits have (plain_trial q) (map plain_trial (steps_to_51 m (q + 3))) h

pub step_here : (bits : Trial → ℕ) (have m q : ℕ) → bits (plain_trial q) ≤ have → first_fit bits have (map plain_trial (steps_to_51 (suc m) q)) ≡ Some (plain_trial q)
unfolding steps_to_51
step_here bits have m q h = fits_here bits have (plain_trial q) (map plain_trial (steps_to_51 m (q + 3))) h

pub last_here : (bits : Trial → ℕ) (have q : ℕ) → bits (plain_trial 51) ≤ have → first_fit bits have (map plain_trial (steps_to_51 zero q)) ≡ Some (plain_trial 51)
unfolding steps_to_51
last_here bits have q h = fits_here bits have (plain_trial 51) [] h

pub last_none : (bits : Trial → ℕ) (have q : ℕ) → have < bits (plain_trial 51) → first_fit bits have (map plain_trial (steps_to_51 zero q)) ≡ None
unfolding steps_to_51
last_none bits have q h = fits_later bits have (plain_trial 51) [] h ∙ fits_nothing bits have
