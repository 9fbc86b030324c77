-- The coder's fields through one bin.
use Rattle.std.proofs.Common.{ℕ, ◌≡◌, ◌+◌, ◌-◌, ◌*◌, ◌/◌, ◌%◌, ◌^◌, ◌<◌, ◌≤◌, inl, inr, Bool, true, false, cond, length, refl, sym, ap, subst, ◌∙◌, arith, add_assoc, add-one, add-zero, pow-add, pow_pos, mod-lt, mod-eq_of_lt, ltb, ltb-true, ltb-false, le_refl}
use Rattle.std.proofs.lemmas.Nat.{mul-le}
use Rattle.std.proofs.Math.Nat.{add-mul-mod_self_right}
use Rattle.std.specs.Bool.{beq}
use Rattle.enc_tables.specs.declared.records.CtxState.{CtxState}
use Rattle.enc_tables.specs.Arithmetic.{lps_range}
use Rattle.spec_cabac.specs.Bins.Request.{Context, Bypass, Terminate}
use Rattle.spec_cabac.specs.Bins.Bin.{Answered}
use Rattle.spec_cabac.specs.Code.{Coded, renormalised, step, with_last_set}
use Rattle.spec_cabac.proofs.Ranges.{IsBounded}
use Rattle.cabac_coder.specs.Emitted.{Emitted}
use Rattle.cabac_coder.specs.Whole.{whole, moved, Grows, doublings_of, bypassing}
use Rattle.cabac_coder.specs.State.{CoderState, state_of, coded_of, FullAt, CoderHolds, stepped}
use Rattle.cabac_coder.proofs.Doublings.{renormalised-is}

pub whole-add : (b : Emitted) (low add range r q : ℕ) → whole b (low + add) range q ≡ moved add range (whole b low r q)
whole-add b low add range r q = rw (add_assoc (512 * (2 ^ q * b.number)) low add) refl

-- ---- the room

full_now : (b : Emitted) (low range q shifts bound more : ℕ) (ended full : Bool) (f : Coded) → CoderHolds b low range q shifts bound ended full →
    f.shifts ≡ b.count + q + more → bound ≤ shifts + more → FullAt (state_of b low range q ended full) f
full_now b low range q shifts bound more ended true f h s l = inl refl
full_now b low range q shifts bound more ended false f h s l = inr (let e = h.limited refl in omega (arith, h.counted))

pub still_live : (b : Emitted) (low range q shifts bound more : ℕ) (ended full : Bool) → CoderHolds b low range q shifts bound ended full →
    shifts + more < bound → full ≡ false
still_live b low range q shifts bound more ended true h l = absurd (let e = h.stopped refl in omega arith)
still_live b low range q shifts bound more ended false h l = refl

not_full : (b : Emitted) (low range q shifts bound more : ℕ) (ended full : Bool) (f : Coded) → CoderHolds b low range q shifts bound ended full →
    f.shifts ≡ b.count + q + more → shifts + more < bound → FullAt (state_of b low range q ended full) f → ⊥
not_full b low range q shifts bound more ended full f h s l (inl e) = let z = h.stopped e in omega arith
not_full b low range q shifts bound more ended full f h s l (inr k) =
    let z = h.limited (still_live b low range q shifts bound more ended full h l) in omega (arith, h.counted)

-- after a bin that is no end
pub holds_after : (b d : Emitted) (low range q low' range' q' shifts bound more : ℕ) (ended full : Bool) (e : Coded) → ended ≡ false →
    CoderHolds b low range q shifts bound ended full → Grows b d → low' + range' ≤ 1024 * 2 ^ q' → q' < 8 → shifts + more < bound →
    whole d low' range' q' ≡ e → IsBounded e → 256 ≤ e.range → e.range < 512 → e.shifts ≡ b.count + q + more →
    CoderHolds d low' range' q' (shifts + more) bound ended full
holds_after b d low range q low' range' q' shifts bound more ended full e v h g r u l w k n m s =
    let c : d.count + q' ≡ e.shifts = ap (λ (x : Coded). x.shifts) w in
    let a : range' ≡ e.range = ap (λ (x : Coded). x.range) w in
    let live : full ≡ false = still_live b low range q shifts bound more ended full h l in
    let z : bound ≡ b.room - (length b.start + 8) = h.limited live in
    record {
      register = r;
      bounded = rw w k;
      counted = omega (arith, h.counted);
      few = u;
      least = omega arith;
      wide = λ _. omega arith;
      most = omega arith;
      limited = rw (g.start, g.room) h.limited;
      stopped = h.stopped;
      kept = λ _ _. l;
      last = λ z. cc;
      far = omega (arith, h.small);
      small = rw g.room h.small;
    }

-- ---- what contracts see

pub refused : (b : Emitted) (low range q shifts bound more : ℕ) (ended full : Bool) (s : CoderState) (g : Coded → Coded) →
    state_of b low range q ended full ≡ s → CoderHolds b low range q shifts bound ended full → (g (whole b low range q)).shifts ≡ b.count + q + more →
    bound ≤ shifts + more → FullAt s (g (coded_of s))
refused b low range q shifts bound more ended full s g v h k r =
    subst (λ (t : CoderState). FullAt t (g (coded_of t))) v (full_now b low range q shifts bound more ended full (g (whole b low range q)) h k r)

pub passed : (b : Emitted) (low range q shifts bound more : ℕ) (ended full : Bool) (s : CoderState) (g : Coded → Coded) →
    state_of b low range q ended full ≡ s → CoderHolds b low range q shifts bound ended full → (g (whole b low range q)).shifts ≡ b.count + q + more →
    shifts + more < bound → FullAt s (g (coded_of s)) → ⊥
passed b low range q shifts bound more ended full s g v h k r f =
    not_full b low range q shifts bound more ended full (g (whole b low range q)) h k r
    (subst (λ (t : CoderState). FullAt t (g (coded_of t))) (sym v) f)

pub went : (b d : Emitted) (low range q low' range' q' : ℕ) (ended full ended' : Bool) (s : CoderState) (g : Coded → Coded) →
    state_of b low range q ended full ≡ s → Grows b d → whole d low' range' q' ≡ g (whole b low range q) → full ≡ false →
    state_of d low' range' q' ended' full ≡ stepped s (g (coded_of s)) ended'
went b d low range q low' range' q' ended full ended' s g v r w n =
    subst (λ (t : CoderState). state_of d low' range' q' ended' full ≡ stepped t (g (coded_of t)) ended') v
    (rw (← w, n, r.start, r.room, r.made) refl)

pub counted : (e : Coded) (count range more : ℕ) → e.shifts ≡ count → e.range ≡ range → more ≡ doublings_of 7 range → (renormalised 7 e).shifts ≡ count + more
counted e count range more s r m = ap (λ (f : Coded). f.shifts) (renormalised-is 7 e) ∙ rw (s, r, m) refl

pub Grows-refl : (b : Emitted) → Grows b b
Grows-refl b = record { start = refl; room = refl; made = refl }

-- ---- the bins

pub bypassing-step : (bit : Bool) (e : Coded) → bypassing bit e ≡ step (Answered Bypass bit) e
unfolding step
bypassing-step bit e = rw (add-one e.shifts) refl

pub end-step : (e : Coded) → moved (e.range - 2) 2 e ≡ step (Answered Terminate true) e
unfolding step
end-step e = refl

pub go_on-step : (e : Coded) → renormalised 7 (moved 0 (e.range - 2) e) ≡ step (Answered Terminate false) e
unfolding step
go_on-step e = rw (add-zero e.low) refl

pub kept-step : (c : CtxState) (bit : Bool) (e : Coded) → beq bit c.mps ≡ true →
    renormalised 7 (moved 0 (e.range - lps_range c.state e.range) e) ≡ step (Answered (Context c) bit) e
unfolding step
kept-step c bit e h = rw (h, add-zero e.low) refl

pub taken-step : (c : CtxState) (bit : Bool) (e : Coded) → beq bit c.mps ≡ false →
    renormalised 7 (moved (e.range - lps_range c.state e.range) (lps_range c.state e.range) e) ≡ step (Answered (Context c) bit) e
unfolding step
taken-step c bit e h = rw h refl

-- ---- the end

cancel : (a b q : ℕ) → a * q < b * q → a < b
cancel a b q h =
    (elim (ltb a b) as (λ t. ltb a b ≡ t → a < b) [
      | true ↦ λ e. ltb-true a b e
      | false ↦ λ e. absurd (omega (arith, mul-le b q a q (ltb-false a b e) (le_refl q)))
    ]) refl

-- where the register carries at the end, the number has a place for it
pub end_bound : (b : Emitted) (low range q : ℕ) → IsBounded (whole b low range q) → 2 ≤ range → 2 ^ (9 + q) ≤ low → b.number + 1 < 2 ^ b.count
end_bound b low range q k r h =
    let p : 2 ^ (b.count + q) ≡ 2 ^ b.count * 2 ^ q = pow-add 2 b.count q in
    let s : 2 ^ (9 + q) ≡ 512 * 2 ^ q = pow-add 2 9 q in
    cancel (b.number + 1) (2 ^ b.count) (2 ^ q) (omega (arith, k.bound))

pub end_fits : (low n : ℕ) → low % 2 ^ (9 + n) / 2 * 2 + 1 < 2 ^ (9 + n)
end_fits low n =
    let s : 2 ^ (9 + n) ≡ 2 * 2 ^ (8 + n) = (let e : 9 + n ≡ 1 + (8 + n) = omega arith in ap (λ k. 2 ^ k) e ∙ pow-add 2 1 (8 + n)) in
    let l : low % 2 ^ (9 + n) < 2 ^ (9 + n) = mod-lt low (pow_pos (9 + n)) in
    omega arith

pub end_number : (carry : Bool) (N low q : ℕ) → (carry ≡ true → 2 ^ (9 + q) ≤ low) → (carry ≡ false → low < 2 ^ (9 + q)) → low < 1024 * 2 ^ q →
    (N + cond carry 1 0) * 2 ^ (9 + q) + (low % 2 ^ (9 + q) / 2 * 2 + 1) ≡ with_last_set (512 * (2 ^ q * N) + low)
end_number true N low q y n b =
    let s : 2 ^ (9 + q) ≡ 512 * 2 ^ q = pow-add 2 9 q in
    let l : 2 ^ (9 + q) ≤ low = y refl in
    let d : low - 2 ^ (9 + q) < 2 ^ (9 + q) = omega arith in
    let e : low ≡ low - 2 ^ (9 + q) + 1 * 2 ^ (9 + q) = omega arith in
    let m : low % 2 ^ (9 + q) ≡ low - 2 ^ (9 + q) = ap (λ x. x % 2 ^ (9 + q)) e ∙ add-mul-mod_self_right (low - 2 ^ (9 + q)) 1 (2 ^ (9 + q)) ∙ mod-eq_of_lt d in
    rw (m, s) (omega arith)
end_number false N low q y n b =
    let s : 2 ^ (9 + q) ≡ 512 * 2 ^ q = pow-add 2 9 q in
    let m : low % 2 ^ (9 + q) ≡ low = mod-eq_of_lt (n refl) in
    rw (m, s) (omega arith)
