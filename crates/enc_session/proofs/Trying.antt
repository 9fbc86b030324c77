-- Trials, one after another.
use Rattle.std.proofs.Common.{ℕ, suc, ◌+◌, ◌-◌, ◌≡◌, ◌≤◌, ◌<◌, Bool, true, false, [], ◌∷◌, length, map, Some, None, Result, Ok, Err, ap, sym, subst, ◌∙◌, arith}
use Rattle.bit_strings.specs.BitText.{BitText}
use Rattle.spec_coding.specs.Trials.{Trial, plain_trial, coarsest_trial, trial_qps, trials, steps_to_51, first_fit}
use Rattle.ref_lists.specs.declared.held.Reference.{Reference}
use Rattle.enc_session.specs.declared.trials.Pick.{Pick}
use Rattle.enc_session.specs.Trying.{Asked, trial_bits, trial_of, IsTaken, TryLeft, PlainLeft, CoarsestLeft, PickLeft}
use Rattle.enc_session.proofs.Fitting.{step_here, step_next, last_here, last_none, fits_here, fits_later, fits_in_front, fits_behind, fits_nothing, none_fits}

taken : (a : Asked) (t : Trial) (old new : BitText) (kept : Reference) (b : Bool) → b ≡ true → TryLeft a t old new kept b → IsTaken a t old new kept
taken a t old new kept true e h = h
taken a t old new kept false e h = absurd cc

not_taken : (a : Asked) (t : Trial) (old new : BitText) (kept : Reference) (b : Bool) → b ≡ false → TryLeft a t old new kept b → (old.room < trial_bits (length old.text) a t) × (new ≡ old)
not_taken a t old new kept true e h = absurd cc
not_taken a t old new kept false e h = h

-- the first trials didn't fit, so the first of all that fits is one of the others
abbrev pub Goes : Asked → ℕ → ℕ → ℕ → BitText → Type 0
Goes a start left q unit =
    first_fit (trial_bits (length unit.text) a) unit.room (map plain_trial (steps_to_51 left q)) ≡ first_fit (trial_bits (length unit.text) a) unit.room (map plain_trial (trial_qps start))

carried : (a b : Asked) (t : Trial) (u v new : BitText) (kept : Reference) (r : Bool) → b ≡ a → v ≡ u → TryLeft b t v new kept r → TryLeft a t u new kept r
carried a b t u v new kept r e k h = subst (λ (x : Asked). TryLeft x t u new kept r) e (subst (λ (w : BitText). TryLeft b t w new kept r) k h)

pub here : (a b : Asked) (start q n k : ℕ) (u v new : BitText) (kept : Reference) (r : Bool) → b ≡ a → v ≡ u → k < n → Goes a start (n - k) q u → TryLeft b (plain_trial q) v new kept r → r ≡ true → PlainLeft a start u new kept (Some q)
here a b start q n k u v new kept r e f less goes h said =
    let t : IsTaken a (plain_trial q) u new kept = taken a (plain_trial q) u new kept r said (carried a b (plain_trial q) u v new kept r e f h) in
    let more : n - k ≡ suc (n - (k + 1)) = omega (arith, less) in (
      sym goes
          ∙ ap (λ (m : ℕ). first_fit (trial_bits (length u.text) a) u.room (map plain_trial (steps_to_51 m q))) more
          ∙ step_here (trial_bits (length u.text) a) u.room (n - (k + 1)) q t.fits,
      t,
    )

pub still : (a b : Asked) (t : Trial) (u v new : BitText) (kept : Reference) (r : Bool) → b ≡ a → v ≡ u → TryLeft b t v new kept r → r ≡ false → new ≡ u
still a b t u v new kept r e f h denied = (not_taken a t u new kept r denied (carried a b t u v new kept r e f h)).1

pub next : (a b : Asked) (start q n k : ℕ) (u v new : BitText) (kept : Reference) (r : Bool) → b ≡ a → v ≡ u → k < n → Goes a start (n - k) q u → TryLeft b (plain_trial q) v new kept r → r ≡ false → Goes a start (n - (k + 1)) (q + 3) u
next a b start q n k u v new kept r e f less goes h denied =
    let t = not_taken a (plain_trial q) u new kept r denied (carried a b (plain_trial q) u v new kept r e f h) in
    let more : n - k ≡ suc (n - (k + 1)) = omega (arith, less) in
    sym (ap (λ (m : ℕ). first_fit (trial_bits (length u.text) a) u.room (map plain_trial (steps_to_51 m q))) more
    ∙ step_next (trial_bits (length u.text) a) u.room (n - (k + 1)) q t.0)
    ∙ goes

pub end_here : (a b : Asked) (start q n k : ℕ) (u v new : BitText) (kept : Reference) (r : Bool) → b ≡ a → v ≡ u → n ≤ k → Goes a start (n - k) q u → TryLeft b (plain_trial 51) v new kept r → r ≡ true → PlainLeft a start u new kept (Some 51)
end_here a b start q n k u v new kept r e f past goes h said =
    let t : IsTaken a (plain_trial 51) u new kept = taken a (plain_trial 51) u new kept r said (carried a b (plain_trial 51) u v new kept r e f h) in
    let none : n - k ≡ 0 = omega (arith, past) in (
      sym goes
          ∙ ap (λ (m : ℕ). first_fit (trial_bits (length u.text) a) u.room (map plain_trial (steps_to_51 m q))) none
          ∙ last_here (trial_bits (length u.text) a) u.room q t.fits,
      t,
    )

pub end_none : (a b : Asked) (start q n k : ℕ) (u v new : BitText) (kept : Reference) (r : Bool) → b ≡ a → v ≡ u → n ≤ k → Goes a start (n - k) q u → TryLeft b (plain_trial 51) v new kept r → r ≡ false → PlainLeft a start u new kept None
end_none a b start q n k u v new kept r e f past goes h denied =
    let t = not_taken a (plain_trial 51) u new kept r denied (carried a b (plain_trial 51) u v new kept r e f h) in
    let none : n - k ≡ 0 = omega (arith, past) in (
      sym goes
          ∙ ap (λ (m : ℕ). first_fit (trial_bits (length u.text) a) u.room (map plain_trial (steps_to_51 m q))) none
          ∙ last_none (trial_bits (length u.text) a) u.room q t.0,
      t.1,
    )

-- ---- all trials of a picture

pub plain_picked : (a : Asked) (start have q : ℕ) (old new : BitText) (kept : Reference) → PlainLeft a start (record old { room = have }) new kept (Some q) → (p : Pick) → p.qp ≡ q → p.coarsest ≡ false → PickLeft a start have old new kept (Ok p)
plain_picked a start have q old new kept h p e f =
    let same : plain_trial q ≡ trial_of p = sym (made p q e f) in (
      fits_in_front (trial_bits (length old.text) a) have (map plain_trial (trial_qps start)) (coarsest_trial ∷ []) (plain_trial q) h.0 ∙ ap (λ (t : Trial). Some t) same,
      subst (λ (t : Trial). IsTaken a t (record old { room = have }) new kept) same h.1,
    )
  where
    made : (p : Pick) (q : ℕ) → p.qp ≡ q → p.coarsest ≡ false → trial_of p ≡ plain_trial q
    made p q e f = ap (λ (n : ℕ). let t : Trial = record { qp = n; coarsest = p.coarsest } in t) e ∙ ap (λ (c : Bool). let t : Trial = record { qp = q; coarsest = c } in t) f

pub coarsest_picked : (a b : Asked) (start have : ℕ) (old mid new : BitText) (kept k : Reference) (r : Result Pick ℕ) → b ≡ a → PlainLeft a start (record old { room = have }) mid k None → CoarsestLeft b mid new kept r → PickLeft a start have old new kept r
coarsest_picked a b start have old mid new kept k r e h c =
    by r (subst (λ (x : Asked). CoarsestLeft x (record old { room = have }) new kept r) e (subst (λ (u : BitText). CoarsestLeft b u new kept r) h.1 c))
  where
    behind : first_fit (trial_bits (length old.text) a) have (trials start) ≡ first_fit (trial_bits (length old.text) a) have (coarsest_trial ∷ [])
    behind = fits_behind (trial_bits (length old.text) a) have (map plain_trial (trial_qps start)) (coarsest_trial ∷ []) h.0

    by : (r : Result Pick ℕ) → CoarsestLeft a (record old { room = have }) new kept r → PickLeft a start have old new kept r
    by (Ok p) t = (
      behind ∙ fits_here (trial_bits (length old.text) a) have coarsest_trial [] (t.1).fits ∙ ap (λ (x : Trial). Some x) (sym t.0),
      subst (λ (x : Trial). IsTaken a x (record old { room = have }) new kept) (sym t.0) t.1,
    )
    by (Err need) t = (
      behind ∙ fits_later (trial_bits (length old.text) a) have coarsest_trial [] (subst (λ (n : ℕ). have < n) t.0 t.1) ∙ fits_nothing (trial_bits (length old.text) a) have,
      t.0,
    )

-- the units before the slices alone are too long
pub none_picked : (a b : Asked) (start have need : ℕ) (old new : BitText) (kept : Reference) → b ≡ a → have < length old.text → need ≡ trial_bits (length old.text) b coarsest_trial → PickLeft a start have old new kept (Err need)
none_picked a b start have need old new kept e long h = (
  none_fits (trial_bits (length old.text) a) have (trials start) (λ t. omega (arith, long)),
  h ∙ ap (λ (x : Asked). trial_bits (length old.text) x coarsest_trial) e,
)
