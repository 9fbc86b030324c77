-- Bins in one: where they lead, or that one of them doesn't fit.
use Rattle.std.proofs.Common.{◌≡◌, ◌+◌, ◌<◌, ◌≤◌, ◌↔◌, inl, inr, Bool, true, false, cond, nat_lt, List, [], ◌∷◌, refl, sym, ap, subst, ◌∙◌, arith, length}
use Rattle.std.specs.Prelude.{◌||◌, Result, Ok, Err, IsErr}
use Rattle.std.proofs.lemmas.Bool.{false≢true}
use Rattle.spec_cabac.specs.Code.{Coded}
use Rattle.spec_cabac.proofs.Ranges.{shifts-run}
use Rattle.spec_syntax.specs.declared.Bin.{Bin}
use Rattle.spec_slice_data.specs.Coding.{asked}
use Rattle.spec_slice_data.specs.Decoding.{after, after_all}
use Rattle.cabac_coder.specs.State.{CoderState, stepped}
use Rattle.bin_writer.specs.Coding.{Coding, coding, is_full_at, bin_step, bins_step, code_bin, code_all, Codes, Written}
use Rattle.bin_writer.proofs.Steps.{full_true, full_back}

-- ---- tests of the room

either_true : (a b : Bool) → (a || b) ≡ false → b ≡ true → ⊥
either_true true b h k = false≢true (sym h)
either_true false b h k = false≢true (sym h ∙ k)

second_false : (a b : Bool) → (a || b) ≡ false → b ≡ false
second_false true b h = absurd (false≢true (sym h))
second_false false b h = h

second_true : (a b : Bool) → a ≡ false → (a || b) ≡ true → b ≡ true
second_true true b e h = absurd (false≢true (sym e))
second_true false b e h = h

first_false : (a b : Bool) → (a || b) ≡ false → a ≡ false
first_false true b h = absurd (false≢true (sym h))
first_false false b h = refl

-- where a longer code fits, a shorter one does
fits_before : (s : CoderState) (f g : Coded) → f.shifts ≤ g.shifts → is_full_at s g ≡ false → is_full_at s f ≡ false
fits_before s f g l h = go (is_full_at s f) refl
  where
    go : (b : Bool) → is_full_at s f ≡ b → is_full_at s f ≡ false
    go false e = e
    go true e = elim (full_back s.full s.room (length s.start + (f.shifts + 9)) e) [
      | inl full ↦ absurd (false≢true (sym h ∙ full_true s.full s.room (length s.start + (g.shifts + 9)) (inl full)))
      | inr more ↦ absurd (false≢true (sym h ∙ full_true s.full s.room (length s.start + (g.shifts + 9)) (inr (omega arith))))
    ]

-- ---- bins that fit

bin_fits : (s : Coding) (b : Bin) → is_full_at s.coder (bin_step s b) ≡ false → code_bin s b ≡ coding (stepped s.coder (bin_step s b) false) (after s.states b)
unfolding code_bin
bin_fits s b h = rw h refl

bin_full : (s : Coding) (b : Bin) → is_full_at s.coder (bin_step s b) ≡ true → (code_bin s b).coder.full ≡ true
unfolding code_bin
bin_full s b h = rw h refl

pub went : (bins : List Bin) (s : Coding) (b : Bin) → is_full_at s.coder (bins_step s (b ∷ bins)) ≡ false
    → code_all s (b ∷ bins) ≡ coding (stepped s.coder (bins_step s (b ∷ bins)) false) (after_all s.states (b ∷ bins))
unfolding asked after_all code_all
went [] s b h = bin_fits s b h
went (d ∷ bins) s b h =
    let next : Coding = coding (stepped s.coder (bin_step s b) false) (after s.states b) in
    let n : is_full_at s.coder (bin_step s b) ≡ false = fits_before s.coder (bin_step s b) (bins_step s (b ∷ d ∷ bins)) (shifts-run (asked (after s.states b) (d ∷ bins)) (bin_step s b)) h in
    let later : is_full_at next.coder (bins_step next (d ∷ bins)) ≡ false = second_false s.coder.full (nat_lt s.coder.room (length s.coder.start + ((bins_step s (b ∷ d ∷ bins)).shifts + 9))) h in
    ap (λ (t : Coding). code_all t (d ∷ bins)) (bin_fits s b n) ∙ went bins next d later

-- ---- and that don't

stays : (bins : List Bin) (s : Coding) → s.coder.full ≡ true → (code_all s bins).coder.full ≡ true
unfolding code_all
stays [] s h = h
stays (b ∷ bins) s h = stays bins (code_bin s b) (bin_full s b (full_true s.coder.full s.coder.room (length s.coder.start + ((bin_step s b).shifts + 9)) (inl h)))

pub filled : (bins : List Bin) (s : Coding) (b : Bin) → is_full_at s.coder (bins_step s (b ∷ bins)) ≡ true → (code_all s (b ∷ bins)).coder.full ≡ true
unfolding asked code_all
filled [] s b h = bin_full s b h
filled (d ∷ bins) s b h = go (is_full_at s.coder (bin_step s b)) refl (λ next e. filled bins next d e)
  where
    go : (q : Bool) → is_full_at s.coder (bin_step s b) ≡ q → ((next : Coding) → is_full_at next.coder (bins_step next (d ∷ bins)) ≡ true → (code_all next (d ∷ bins)).coder.full ≡ true)
        → (code_all (code_bin s b) (d ∷ bins)).coder.full ≡ true
    go true e ih = stays (d ∷ bins) (code_bin s b) (bin_full s b e)
    go false e ih =
        let next : Coding = coding (stepped s.coder (bin_step s b) false) (after s.states b) in
        let open_ : s.coder.full ≡ false = first_false s.coder.full (nat_lt s.coder.room (length s.coder.start + ((bin_step s b).shifts + 9))) e in
        let later : is_full_at next.coder (bins_step next (d ∷ bins)) ≡ true = second_true s.coder.full (nat_lt s.coder.room (length s.coder.start + ((bins_step s (b ∷ d ∷ bins)).shifts + 9))) open_ h in
        subst (λ (t : Coding). (code_all t (d ∷ bins)).coder.full ≡ true) (sym (bin_fits s b e)) (ih next later)

-- ---- what no bin changes

kept_bin : {X : Type 0} (g : CoderState → X) → ((s : CoderState) (f : Coded) → g (stepped s f false) ≡ g s) → ((s : CoderState) → g (record s { full = true }) ≡ g s) → (s : Coding) (b : Bin) → g (code_bin s b).coder ≡ g s.coder
unfolding code_bin
kept_bin g h k s b =
    elim (is_full_at s.coder (bin_step s b)) as (λ q. g (cond q (coding (record s.coder { full = true }) s.states) (coding (stepped s.coder (bin_step s b) false) (after s.states b))).coder ≡ g s.coder)
    [ true ↦ k s.coder | false ↦ h s.coder (bin_step s b) ]

pub kept : {X : Type 0} (g : CoderState → X) → ((s : CoderState) (f : Coded) → g (stepped s f false) ≡ g s) → ((s : CoderState) → g (record s { full = true }) ≡ g s) → (bins : List Bin) (s : Coding) → g (code_all s bins).coder ≡ g s.coder
unfolding code_all
kept g h k [] s = refl
kept g h k (b ∷ bins) s = kept g h k bins (code_bin s b) ∙ kept_bin g h k s b

-- ---- the answer

not_full : {A E : Type 0} (answer : Result A E) (old : Coding) (b : Bin) (bins : List Bin) (new : Coding) → Codes old (b ∷ bins) new → (IsErr answer ↔ (new.coder.full ≡ true)) → is_full_at old.coder (bins_step old (b ∷ bins)) ≡ false → Written answer old (b ∷ bins) new
not_full (Ok a) old b bins new h k e = record {
  full = (λ bad. absurd (false≢true bad), λ bad. absurd (false≢true (sym e ∙ full_true old.coder.full old.coder.room (length old.coder.start + ((bins_step old (b ∷ bins)).shifts + 9)) bad)));
  ok = h.same ∙ went bins old b e;
  err = tt;
}
not_full (Err a) old b bins new h k e = absurd (false≢true (sym (ap (λ (t : Coding). t.coder.full) (h.same ∙ went bins old b e)) ∙ k.0 refl))

is_full : {A E : Type 0} (answer : Result A E) (old : Coding) (b : Bin) (bins : List Bin) (new : Coding) → Codes old (b ∷ bins) new → (IsErr answer ↔ (new.coder.full ≡ true)) → is_full_at old.coder (bins_step old (b ∷ bins)) ≡ true → Written answer old (b ∷ bins) new
is_full (Ok a) old b bins new h k e = absurd (false≢true (k.1 (ap (λ (t : Coding). t.coder.full) h.same ∙ filled bins old b e)))
is_full (Err a) old b bins new h k e = record {
  full = (λ _. full_back old.coder.full old.coder.room (length old.coder.start + ((bins_step old (b ∷ bins)).shifts + 9)) e, λ _. refl);
  ok = tt;
  err = record {
    full = ap (λ (t : Coding). t.coder.full) h.same ∙ filled bins old b e;
    start = ap (λ (t : Coding). t.coder.start) h.same ∙ kept (λ s. s.start) (λ s f. refl) (λ s. refl) (b ∷ bins) old;
    room = ap (λ (t : Coding). t.coder.room) h.same ∙ kept (λ s. s.room) (λ s f. refl) (λ s. refl) (b ∷ bins) old;
    made = ap (λ (t : Coding). t.coder.made) h.same ∙ kept (λ s. s.made) (λ s f. refl) (λ s. refl) (b ∷ bins) old;
    live = h.ready.live;
  };
}

pub written : {A E : Type 0} (answer : Result A E) (old : Coding) (bins : List Bin) (new : Coding) → 0 < length bins → Codes old bins new → (IsErr answer ↔ (new.coder.full ≡ true)) → Written answer old bins new
written answer old [] new some h k = absurd (omega arith)
written answer old (b ∷ bins) new some h k = go (is_full_at old.coder (bins_step old (b ∷ bins))) refl
  where
    go : (q : Bool) → is_full_at old.coder (bins_step old (b ∷ bins)) ≡ q → Written answer old (b ∷ bins) new
    go true e = is_full answer old b bins new h k e
    go false e = not_full answer old b bins new h k e
