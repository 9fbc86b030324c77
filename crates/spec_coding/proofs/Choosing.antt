-- What the choice by trials gives: the layers' laws, and the buffer.
use Rattle.std.proofs.Common.{le_refl, ℕ, zero, suc, ◌≡◌, ◌+◌, ◌-◌, ◌*◌, ◌/◌, ◌<◌, ◌≤◌, Bool, true, false, cond, List, [], ◌∷◌, ◌++◌, map, Option, Some, None, refl, sym, ap, subst, ◌∙◌, arith}
use Rattle.std.specs.Prelude.{nat_le}
use Rattle.std.specs.List.{AllByRecursion}
use Rattle.std.proofs.lemmas.Bool.Decides.{nat_tests}
use Rattle.std.proofs.Math.Nat.{div-mul-le_self}
use Rattle.enc_tables.specs.declared.records.PlanStep.{PlanStep}
use Rattle.spec_film.specs.Films.{Planes}
use Rattle.spec_headers.specs.declared.heads.SeqHead.{SeqHead}
use Rattle.spec_lists.specs.References.{kept}
use Rattle.spec_buffer.specs.Buffer.{BufferHolds, IsRate}
use Rattle.spec_buffer.specs.Ledger.{fresh, Keeps, start_qp, available, filler_bytes, Spends, sizes_of}
use Rattle.spec_buffer.proofs.Holds.{step, share_is_there, ledgers_keep_the_buffer}
use Rattle.spec_buffer.proofs.Least.{start_fits}
use Rattle.spec_decoder.specs.Pictures.{Reading}
use Rattle.spec_pictures.specs.Coded.{slices_in}
use Rattle.spec_pictures.specs.Accesses.{IsAccess, AllCoded, AreOthers, slices_of_accesses, id_in}
use Rattle.spec_coding.specs.Encoding.{State, Picked, Fits, Refused, access_of, coded, after, accesses_of, encoded}
use Rattle.spec_coding.specs.Trials.{Coder, Film, Trial, coarsest_trial, plain_trial, trial_qps, steps_to_51, trials, first_fit, delays_of, bits_by, picked_by, by_trial, moved_by, choice_of}
use Rattle.spec_coding.specs.Laws.{IsTrial, spendings, CoderLaws, AreSmall, FirstFits}
use Rattle.spec_coding.proofs.Going.{going, LayerLaws, all_coded, coded_others}
use Rattle.spec_coding.proofs.Passing.{supplement_passed, filler_passed}

-- the first that fits does fit
fits_by : (bits : Trial → ℕ) (have : ℕ) (t u : Trial) (ts : List Trial) → (first_fit bits have ts ≡ Some u → bits u ≤ have) → (b : Bool) → nat_le (bits t) have ≡ b → cond b (Some t) (first_fit bits have ts) ≡ Some u → bits u ≤ have
fits_by bits have t u ts ih true h e = let same : t ≡ u = cc in subst (λ x. bits x ≤ have) same (less (bits t) have h)
  where
    less : (a b : ℕ) → nat_le a b ≡ true → a ≤ b
    less a b h = grind (arith, nat_tests)
fits_by bits have t u ts ih false h e = ih e

first_fits : (bits : Trial → ℕ) (have : ℕ) (ts : List Trial) (u : Trial) → first_fit bits have ts ≡ Some u → bits u ≤ have
unfolding first_fit
first_fits bits have [] u e = absurd cc
first_fits bits have (t ∷ ts) u e = fits_by bits have t u ts (first_fits bits have ts u) (nat_le (bits t) have) refl e

-- a refusal: the last trial, too, has more bits than there are
none_fits : (bits : Trial → ℕ) (have : ℕ) (ts : List Trial) (u : Trial) → first_fit bits have (ts ++ u ∷ []) ≡ None → have < bits u
unfolding first_fit
none_fits bits have [] u e = by (nat_le (bits u) have) refl e
  where
    more : (a b : ℕ) → nat_le a b ≡ false → b < a
    more a b h = grind (arith, nat_tests)

    by : (b : Bool) → nat_le (bits u) have ≡ b → cond b (Some u) None ≡ None → have < bits u
    by true h e = absurd cc
    by false h e = more (bits u) have h
none_fits bits have (t ∷ ts) u e = by (nat_le (bits t) have) e (none_fits bits have ts u)
  where
    by : (b : Bool) → cond b (Some t) (first_fit bits have (ts ++ u ∷ [])) ≡ None → (first_fit bits have (ts ++ u ∷ []) ≡ None → have < bits u) → have < bits u
    by true e ih = absurd cc
    by false e ih = ih e

refused_by : {S : Type 0} (f : Film) (c : Coder S) (s : State) (st : PlanStep) (source : Planes) (need have : ℕ) (o : Option Trial) → (o ≡ None → available f.rate s.ledger < bits_by f c s st source coarsest_trial)
    → by_trial f c s st source o ≡ Refused need have → (need ≡ bits_by f c s st source coarsest_trial) × (have ≡ available f.rate s.ledger) × (have < need)
unfolding by_trial
refused_by f c s st source need have (Some t) more e = absurd cc
refused_by f c s st source need have None more e =
    let a : bits_by f c s st source coarsest_trial ≡ need = cc in let b : available f.rate s.ledger ≡ have = cc in (sym a, sym b, subst (λ (n : ℕ). have < n) a (subst (λ (n : ℕ). n < bits_by f c s st source coarsest_trial) b (more refl)))

-- a picture is refused exactly where its coarsest unit has more bits than there are, which are the two numbers
pub refused_means : {S : Type 0} (f : Film) (c : Coder S) (s : State) (st : PlanStep) (source : Planes) (need have : ℕ) → (choice_of f c).chosen s st source ≡ Refused need have
    → (need ≡ bits_by f c s st source coarsest_trial) × (have ≡ available f.rate s.ledger) × (have < need)
refused_means f c s st source need have e =
    refused_by f c s st source need have (first_fit (bits_by f c s st source) (available f.rate s.ledger) (trials (start_qp st.kind s.ledger.qp)))
    (λ h. none_fits (bits_by f c s st source) (available f.rate s.ledger) (map plain_trial (trial_qps (start_qp st.kind s.ledger.qp))) coarsest_trial h) e

-- trials have quantisation parameters
steps_small : (n q : ℕ) → q + 3 * n ≤ 53 → AllByRecursion (λ t. t.qp ≤ 51) (map plain_trial (steps_to_51 n q))
unfolding steps_to_51
steps_small zero q h = (le_refl 51, tt)
steps_small (suc n) q h = (omega (arith, h), steps_small n (q + 3) (omega (arith, h)))

and_last : (F : Trial → Type 0) (ts : List Trial) (u : Trial) → AllByRecursion F ts → F u → AllByRecursion F (ts ++ u ∷ [])
and_last F [] u h k = (k, tt)
and_last F (t ∷ ts) u h k = (h.0, and_last F ts u h.1 k)

trials_small : (start : ℕ) → start ≤ 51 → AllByRecursion (λ t. t.qp ≤ 51) (trials start)
trials_small start h =
    let whole : (53 - start) / 3 * 3 ≤ 53 - start = div-mul-le_self (53 - start) 3 in
    and_last (λ t. t.qp ≤ 51) (map plain_trial (trial_qps start)) coarsest_trial (steps_small ((53 - start) / 3) start (omega (arith, whole, h))) (le_refl 51)

first_of_all : (F : Trial → Type 0) (bits : Trial → ℕ) (have : ℕ) (ts : List Trial) (u : Trial) → AllByRecursion F ts → first_fit bits have ts ≡ Some u → F u
unfolding first_fit
first_of_all F bits have [] u h e = absurd cc
first_of_all F bits have (t ∷ ts) u h e = by (nat_le (bits t) have) e (first_of_all F bits have ts u h.1)
  where
    by : (b : Bool) → cond b (Some t) (first_fit bits have ts) ≡ Some u → (first_fit bits have ts ≡ Some u → F u) → F u
    by true e ih = let same : t ≡ u = cc in subst F same h.0
    by false e ih = ih e

is_trial_by : {S : Type 0} (f : Film) (c : Coder S) (s : State) (st : PlanStep) (source : Planes) (p : Picked S) (o : Option Trial) → ((u : Trial) → o ≡ Some u → bits_by f c s st source u ≤ available f.rate s.ledger) → ((u : Trial) → o ≡ Some u → u.qp ≤ 51)
    → by_trial f c s st source o ≡ Fits p → IsTrial f c s st source p
unfolding by_trial
is_trial_by f c s st source p None small low e = absurd cc
is_trial_by f c s st source p (Some t) small low e = record { trial = t; qp = low t refl; same = let q : picked_by f c s st source t ≡ p = cc in sym q; small = small t refl }

pub is_trial : {S : Type 0} (f : Film) (c : Coder S) (s : State) (st : PlanStep) (source : Planes) (p : Picked S) → (choice_of f c).chosen s st source ≡ Fits p → IsTrial f c s st source p
is_trial f c s st source p e =
    is_trial_by f c s st source p (first_fit (bits_by f c s st source) (available f.rate s.ledger) (trials (start_qp st.kind s.ledger.qp)))
    (λ u h. first_fits (bits_by f c s st source) (available f.rate s.ledger) (trials (start_qp st.kind s.ledger.qp)) u h)
    (λ u h. first_of_all (λ t. t.qp ≤ 51) (bits_by f c s st source) (available f.rate s.ledger) (trials (start_qp st.kind s.ledger.qp)) u (trials_small (start_qp st.kind s.ledger.qp) (start_fits st.kind s.ledger.qp)) h) e

-- ---- the buffer

bits_fit : {S : Type 0} (f : Film) (c : Coder S) (s : State) (st : PlanStep) (source : Planes) (p : Picked S) → IsTrial f c s st source p → p.bits ≤ available f.rate s.ledger
unfolding picked_by
bits_fit f c s st source p t = subst (λ (n : ℕ). n ≤ available f.rate s.ledger) (sym (ap (λ (x : Picked _). x.bits) t.same)) t.small

filler_is : {S : Type 0} (f : Film) (c : Coder S) (s : State) (st : PlanStep) (source : Planes) (p : Picked S) → IsTrial f c s st source p → p.filler ≡ filler_bytes f.rate s.ledger p.bits
unfolding picked_by
filler_is f c s st source p t = ap (λ (x : Picked _). x.filler) t.same ∙ ap (λ n. filler_bytes f.rate s.ledger n) (sym (ap (λ (x : Picked _). x.bits) t.same))

spends_so : {S : Type 0} (r : Reading S) (q : SeqHead) (f : Film) (c : Coder S) (xs : List (PlanStep × Planes)) (s : State) → Spends f.rate s.ledger (spendings (encoded r q (choice_of f c) s xs).done)
unfolding coded after moved_by
spends_so r q f c xs s =
    going r q (choice_of f c) (λ s xs w. Spends f.rate s.ledger (spendings w.done)) (λ s. tt) (λ s x xs need have e. tt)
    (λ s x xs p w e ih. let t = is_trial f c s x.0 x.1 p e in (bits_fit f c s x.0 x.1 p t, filler_is f c s x.0 x.1 p t, ih)) xs s

pub the_buffer_holds : {S : Type 0} (r : Reading S) (q : SeqHead) (f : Film) (c : Coder S) (qp : ℕ) (s : State) (xs : List (PlanStep × Planes)) → IsRate f.rate → s.ledger ≡ fresh qp → BufferHolds f.rate (sizes_of (spendings (encoded r q (choice_of f c) s xs).done))
the_buffer_holds r q f c qp s xs is e =
    ledgers_keep_the_buffer f.rate qp (spendings (encoded r q (choice_of f c) s xs).done) is
    (subst (λ l. Spends f.rate l (spendings (encoded r q (choice_of f c) s xs).done)) e (spends_so r q f c xs s))

pub layer_laws : {S : Type 0} (r : Reading S) (q : SeqHead) (f : Film) (c : Coder S) (Sound : State → List (PlanStep × Planes) → Type 0) → CoderLaws r q f c Sound → LayerLaws r q f.flags (choice_of f c) Sound
unfolding picked_by after moved_by
layer_laws r q f c Sound laws = record {
  codes = λ s x xs p so e.
      let t = is_trial f c s x.0 x.1 p e in
      let cover = laws.covers s x xs t.trial t.qp so in
      subst (λ p. IsAccess r q f.flags (kept x.0.idr s.held) (access_of x.0 p)) (sym t.same)
      (record {
        lead = cover.0;
        covers = cover.1;
        before = (supplement_passed (delays_of f s x.0) (laws.delays s x xs so), tt);
        behind = filler_passed (filler_bytes f.rate s.ledger (bits_by f c s x.0 x.1 t.trial));
      });
  keeps = λ s x xs p so e. let t = is_trial f c s x.0 x.1 p e in subst (λ p. Sound (after r q (choice_of f c) s x.0 p) xs) (sym t.same) (laws.keeps s x xs t.trial so);
  names = λ s x xs p so e. let t = is_trial f c s x.0 x.1 p e in ap (λ (y : Picked _). id_in r (slices_in y.slices)) t.same ∙ laws.names s x xs t.trial t.qp so;
  counts = λ s x p. refl;
}

-- so each access unit is one that a decoder is owed, and the numbers of IDR pictures alternate
pub coders_encode : {S : Type 0} (r : Reading S) (q : SeqHead) (f : Film) (c : Coder S) (Sound : State → List (PlanStep × Planes) → Type 0) → CoderLaws r q f c Sound
    → (xs : List (PlanStep × Planes)) (s : State) → Sound s xs
    → AllCoded r q f.flags s.held (accesses_of (encoded r q (choice_of f c) s xs).done) × AreOthers r None (slices_of_accesses (accesses_of (encoded r q (choice_of f c) s xs).done))
coders_encode r q f c Sound laws xs s sound =
    let layers = layer_laws r q f c Sound laws in
    (all_coded r q f.flags (choice_of f c) Sound layers xs s sound, coded_others r q f.flags (choice_of f c) Sound layers xs s sound)

-- ---- no picture is refused where each coarsest unit has at most a picture's share, and the first at most what is there

-- behind a unit, the next coarsest one fits
next_fits : {S : Type 0} (r : Reading S) (q : SeqHead) (f : Film) (c : Coder S) (s : State) (st : PlanStep) (source : Planes) (p : Picked S) (xs : List (PlanStep × Planes)) → IsRate f.rate → Keeps f.rate s.ledger → IsTrial f c s st source p
    → AreSmall r q f c (after r q (choice_of f c) s st p) xs → FirstFits f c (after r q (choice_of f c) s st p) xs
unfolding after moved_by
next_fits r q f c s st source p [] is k t small = tt
next_fits r q f c s st source p (x ∷ xs) is k t small = share_is_there f.rate s.ledger p.bits p.filler _ is k (bits_fit f c s st source p t) (filler_is f c s st source p t) small.0

still_keeps : {S : Type 0} (r : Reading S) (q : SeqHead) (f : Film) (c : Coder S) (s : State) (st : PlanStep) (source : Planes) (p : Picked S) → IsRate f.rate → Keeps f.rate s.ledger → IsTrial f c s st source p → Keeps f.rate (after r q (choice_of f c) s st p).ledger
unfolding after moved_by
still_keeps r q f c s st source p is k t = (step f.rate s.ledger p.bits p.filler is k (bits_fit f c s st source p t) (filler_is f c s st source p t)).1

pub never_refused : {S : Type 0} (r : Reading S) (q : SeqHead) (f : Film) (c : Coder S) (xs : List (PlanStep × Planes)) (s : State) → IsRate f.rate → Keeps f.rate s.ledger → AreSmall r q f c s xs → FirstFits f c s xs → (encoded r q (choice_of f c) s xs).refused ≡ None
never_refused r q f c xs s is k small first =
    going r q (choice_of f c) (λ s xs w. Keeps f.rate s.ledger → AreSmall r q f c s xs → FirstFits f c s xs → w.refused ≡ None) (λ s k a h. refl)
    (λ s x xs need have e k a h. let m = refused_means f c s x.0 x.1 need have e in absurd (no (bits_by f c s x.0 x.1 coarsest_trial) (available f.rate s.ledger) need have m.0 m.1 m.2 h))
    (λ s x xs p w e ih k a h.
    let t = is_trial f c s x.0 x.1 p e in
    ih (still_keeps r q f c s x.0 x.1 p is k t) (a.1 p e) (next_fits r q f c s x.0 x.1 p xs is k t (a.1 p e)))
    xs s k small first
  where
    no : (bits there need have : ℕ) → need ≡ bits → have ≡ there → have < need → bits ≤ there → ⊥
    no bits there need have a b h g = omega (arith, a, b, h, g)
