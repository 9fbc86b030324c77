-- What one bin leads to, by what the coder tells of it.
use Rattle.std.proofs.Common.{◌≡◌, ℕ, ◌+◌, ◌<◌, ◌≤◌, ◌⊎◌, ◌↔◌, inl, inr, Bool, true, false, cond, nat_lt, List, [], ◌∷◌, refl, sym, ap, subst, ◌∙◌, arith, length, ltb-true}
use Rattle.std.specs.Prelude.{◌||◌, ◌&&◌, Result, Ok, Err, IsErr, OnOk, OnErr, slice_index_or, slice_set}
use Rattle.std.proofs.lemmas.Bool.{false≢true}
use Rattle.std.proofs.lemmas.Bool.Decides.{nat_tests}
use Rattle.std.proofs.lemmas.List.{set-get_or}
use Rattle.enc_tables.specs.declared.records.CtxState.{CtxState}
use Rattle.enc_tables.specs.Arithmetic.{state_after}
use Rattle.spec_contexts.specs.States.{no_state, AllKnown}
use Rattle.spec_contexts.proofs.Known.{known_set}
use Rattle.spec_cabac.specs.Code.{Coded, step}
use Rattle.spec_cabac.specs.Bins.{Request}
use Rattle.spec_cabac.specs.Bins.Request.{Context}
use Rattle.spec_cabac.specs.Bins.Bin.{Answered}
use Rattle.spec_syntax.specs.declared.Bin.{Bin}
use Rattle.spec_syntax.specs.Syntax.{at}
use Rattle.spec_slice_data.specs.Decoding.{is_bypass, is_terminate, request, after}
use Rattle.spec_slice_data.specs.Coding.{ends_code, GoesOn}
use Rattle.cabac_coder.specs.State.{CoderState, coded_of, stepped, FullAt}
use Rattle.bin_writer.specs.Coding.{Coding, is_full_at, bin_step, code_bin, IsReady, Codes, CodesPlain, IsCodable, coding}
use Rattle.bin_writer.proofs.Coding.{code_one}

pub full_true : (full : Bool) (m n : ℕ) → (full ≡ true) ⊎ (m < n) → (full || nat_lt m n) ≡ true
full_true true m n h = refl
full_true false m n (inl e) = absurd cc
full_true false m n (inr l) = grind (arith, nat_tests)

pub full_back : (full : Bool) (m n : ℕ) → (full || nat_lt m n) ≡ true → (full ≡ true) ⊎ (m < n)
full_back true m n h = inl refl
full_back false m n h = inr (ltb-true m n h)

full_not : (full : Bool) (m n : ℕ) → ((full ≡ true) ⊎ (m < n) → ⊥) → (full || nat_lt m n) ≡ false
full_not true m n h = absurd (h (inl refl))
full_not false m n h = go (nat_lt m n) refl
  where
    go : (b : Bool) → nat_lt m n ≡ b → nat_lt m n ≡ false
    go true e = absurd (h (inr (ltb-true m n e)))
    go false e = e

-- ---- what a call of the coder leaves, by its answer

pub record Told {A E : Type 0} (answer : Result A E) (s : CoderState) (f : Coded) (t : CoderState) : Type 0 where
  pub full : IsErr answer ↔ FullAt s f
  pub ok : OnOk answer (t ≡ stepped s f false)
  pub err : OnErr answer (t ≡ record s { full = true })

-- a value of which it is told what it is after either answer
pub record Either {A E X : Type 0} (answer : Result A E) (at_ok at_err x : X) : Type 0 where
  pub ok : OnOk answer (x ≡ at_ok)
  pub err : OnErr answer (x ≡ at_err)

pub told_coder : {A E : Type 0} (answer : Result A E) (s : CoderState) (f : Coded) (t : CoderState) → Told answer s f t
    → t ≡ cond (is_full_at s f) (record s { full = true }) (stepped s f false)
told_coder (Ok a) s f t h =
    let n : is_full_at s f ≡ false = full_not s.full s.room (length s.start + (f.shifts + 9)) (λ k. false≢true ((h.full).1 k)) in
    rw n h.ok
told_coder (Err e) s f t h =
    let y : is_full_at s f ≡ true = full_true s.full s.room (length s.start + (f.shifts + 9)) ((h.full).0 refl) in
    rw y h.err

pub told_states : {A E X : Type 0} (answer : Result A E) (s : CoderState) (f : Coded) (t : CoderState) (at_ok at_err x : X) → Told answer s f t → Either answer at_ok at_err x
    → x ≡ cond (is_full_at s f) at_err at_ok
told_states (Ok a) s f t at_ok at_err x h k =
    let n : is_full_at s f ≡ false = full_not s.full s.room (length s.start + (f.shifts + 9)) (λ k. false≢true ((h.full).1 k)) in
    rw n k.ok
told_states (Err e) s f t at_ok at_err x h k =
    let y : is_full_at s f ≡ true = full_true s.full s.room (length s.start + (f.shifts + 9)) ((h.full).0 refl) in
    rw y k.err

either_same : {A E X : Type 0} (answer : Result A E) (x y : X) → x ≡ y → Either answer x y y
either_same (Ok a) x y e = record { ok = sym e; err = tt }
either_same (Err a) x y e = record { ok = tt; err = refl }

-- a context's state, put into its place
either_set : {A E : Type 0} (answer : Result A E) (states : List CtxState) (c : ℕ) (next w : CtxState) (later : List CtxState) → later ≡ slice_set states c next
    → Either answer next (slice_index_or states c no_state) w → Either answer later states (slice_set states c w)
either_set (Ok a) states c next w later e k = record { ok = ap (λ (x : CtxState). slice_set states c x) k.ok ∙ sym e; err = tt }
either_set (Err a) states c next w later e k = record { ok = tt; err = ap (λ (x : CtxState). slice_set states c x) k.err ∙ set-get_or states c no_state }

not_bypass : (c : ℕ) → c < 436 → is_bypass c ≡ false
not_bypass c h = grind (arith, nat_tests)

not_same : (c : ℕ) → (c ≡ 276 → ⊥) → is_terminate c ≡ false
not_same c h = grind (arith, nat_tests)

-- ---- a bin, coded

bin_pick : (q : Bool) (t a b : CoderState) (states xs ys : List CtxState) → t ≡ cond q a b → states ≡ cond q xs ys → coding t states ≡ cond q (coding a xs) (coding b ys)
bin_pick true t a b states xs ys e k = rw (e, k) refl
bin_pick false t a b states xs ys e k = rw (e, k) refl

bin_is : (s : Coding) (b : Bin) (t : CoderState) (states : List CtxState) → t ≡ cond (is_full_at s.coder (bin_step s b)) (record s.coder { full = true }) (stepped s.coder (bin_step s b) false)
    → states ≡ cond (is_full_at s.coder (bin_step s b)) s.states (after s.states b) → coding t states ≡ code_bin s b
unfolding code_bin
bin_is s b t states e k = bin_pick (is_full_at s.coder (bin_step s b)) t (record s.coder { full = true }) (stepped s.coder (bin_step s b) false) states s.states (after s.states b) e k

live_bin : (q : Bool) (s : CoderState) (f : Coded) → s.ended ≡ false → (cond q (record s { full = true }) (stepped s f false)).ended ≡ false
live_bin true s f h = h
live_bin false s f h = refl

goes_one : (b : Bin) → ends_code b ≡ false → GoesOn (b ∷ [])
unfolding GoesOn
goes_one b e = (e, tt)

codes_one : {A E : Type 0} (answer : Result A E) (s : Coding) (b : Bin) (t : CoderState) (states : List CtxState) → Told answer s.coder (bin_step s b) t → Either answer (after s.states b) s.states states
    → s.coder.ended ≡ false → AllKnown states → ends_code b ≡ false → Codes s (b ∷ []) (coding t states)
codes_one answer s b t states h k live known e =
    let c = told_coder answer s.coder (bin_step s b) t h in
    record {
      same = bin_is s b t states c (told_states answer s.coder (bin_step s b) t (after s.states b) s.states states h k) ∙ sym (code_one s b);
      ready = record { live = ap (λ (x : CoderState). x.ended) c ∙ live_bin (is_full_at s.coder (bin_step s b)) s.coder (bin_step s b) live; known = known };
      goes_on = goes_one b e;
    }

pub codes_plain : {A E : Type 0} (answer : Result A E) (s : CoderState) (b : Bin) (q : Request) (t : CoderState) → ((states : List CtxState) → request states b.ctx ≡ q) → ((states : List CtxState) → after states b ≡ states) → ends_code b ≡ false
    → s.ended ≡ false → Told answer s (step (Answered q b.bit) (coded_of s)) t → CodesPlain s (b ∷ []) t
codes_plain answer s b q t e k n live h = record {
  coded = λ states known.
      let p : Coding = coding s states in
      codes_one answer p b t states (subst (λ (q : Request). Told answer s (step (Answered q b.bit) (coded_of s)) t) (sym (e states)) h) (either_same answer (after states b) states (k states)) live known n;
  live = ap (λ (x : CoderState). x.ended) (told_coder answer s (step (Answered q b.bit) (coded_of s)) t h) ∙ live_bin (is_full_at s (step (Answered q b.bit) (coded_of s))) s (step (Answered q b.bit) (coded_of s)) live;
}

-- by a context that has a state
pub codes_context : {A E : Type 0} (answer : Result A E) (s : Coding) (c : ℕ) (bit : Bool) (t : CoderState) (x w : CtxState) → IsReady s → c < 436 → (c ≡ 276 → ⊥)
    → x ≡ slice_index_or s.states c no_state → Told answer s.coder (step (Answered (Context x) bit) (coded_of s.coder)) t
    → Either answer (state_after x bit) x w → w.state ≤ 63 → Codes s (at c bit ∷ []) (coding t (slice_set s.states c w))
codes_context answer s c bit t x w ready below other a h k known =
    let p : is_bypass c ≡ false = not_bypass c below in
    let q : is_terminate c ≡ false = not_same c other in
    let e : request s.states c ≡ Context (slice_index_or s.states c no_state) = rw (p, q) refl in
    let f : after s.states (at c bit) ≡ slice_set s.states c (state_after (slice_index_or s.states c no_state) bit) = rw (p, q) refl in
    let told = subst (λ (y : CtxState). Told answer s.coder (step (Answered (Context y) bit) (coded_of s.coder)) t) a h in
    let either = subst (λ (y : CtxState). Either answer (state_after y bit) y w) a k in
    codes_one answer s (at c bit) t (slice_set s.states c w) (subst (λ (r : Request). Told answer s.coder (step (Answered r bit) (coded_of s.coder)) t) (sym e) told)
    (either_set answer s.states c (state_after (slice_index_or s.states c no_state) bit) w (after s.states (at c bit)) f either)
    ready.live (known_set s.states c w ready.known known) (rw q refl)

-- ---- a bin of either kind

pub codes_bypass : (s : Coding) (b : Bin) (t : CoderState) → b.ctx ≡ 1000 → IsReady s → CodesPlain s.coder (at 1000 b.bit ∷ []) t → Codes s (b ∷ []) (coding t s.states)
codes_bypass s b t e ready h = subst (λ (c : ℕ). Codes s (at c b.bit ∷ []) (coding t s.states)) (sym e) (h.coded s.states ready.known)

-- a bin before termination that is codable is 0
zero_there : (b : Bin) → b.ctx ≡ 276 → IsCodable b → b.bit ≡ false
zero_there b e (inl k) = absurd (omega arith)
zero_there b e (inr k) = go b.bit (rw e at k.1)
  where
    go : (bit : Bool) → (is_terminate 276 && bit) ≡ false → bit ≡ false
    go bit h = h

pub codes_no_end : (s : Coding) (b : Bin) (t : CoderState) → b.ctx ≡ 276 → IsCodable b → IsReady s → CodesPlain s.coder (at 276 false ∷ []) t → Codes s (b ∷ []) (coding t s.states)
codes_no_end s b t e codable ready h =
    let z : b.bit ≡ false = zero_there b e codable in
    let same : b ≡ at 276 false = ap (λ (c : ℕ). at c b.bit) e ∙ ap (λ (bit : Bool). at 276 bit) z in
    subst (λ (x : Bin). Codes s (x ∷ []) (coding t s.states)) (sym same) (h.coded s.states ready.known)
