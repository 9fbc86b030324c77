-- Bins coded one after another.
use Rattle.std.proofs.Common.{◌≡◌, false, List, [], ◌∷◌, ◌++◌, refl, sym, subst}
use Rattle.spec_syntax.specs.declared.Bin.{Bin}
use Rattle.spec_slice_data.specs.Coding.{GoesOn}
use Rattle.spec_slice_data.proofs.Decoded.{goes_on_append}
use Rattle.cabac_coder.specs.State.{CoderState}
use Rattle.bin_writer.specs.Coding.{Coding, code_bin, code_all, IsReady, Codes, CodesPlain, coding}

pub code_nil : (s : Coding) → code_all s [] ≡ s
unfolding code_all
code_nil s = refl

pub code_one : (s : Coding) (b : Bin) → code_all s (b ∷ []) ≡ code_bin s b
unfolding code_all
code_one s b = refl

pub code_append : (s : Coding) (xs ys : List Bin) → code_all s (xs ++ ys) ≡ code_all (code_all s xs) ys
unfolding code_all
code_append s [] ys = refl
code_append s (x ∷ xs) ys = code_append (code_bin s x) xs ys

goes_none : GoesOn []
unfolding GoesOn
goes_none = tt

pub codes_none : {s : Coding} → IsReady s → Codes s [] s
codes_none {s} r = record { same = sym (code_nil s); ready = r; goes_on = goes_none }

pub codes_then : {s t u : Coding} {xs ys : List Bin} → Codes s xs t → Codes t ys u → Codes s (xs ++ ys) u
codes_then {s} {t} {u} {xs} {ys} h k = record {
  same = rw (code_append s xs ys, ← h.same) k.same;
  ready = k.ready;
  goes_on = goes_on_append xs ys h.goes_on k.goes_on;
}

-- the same bins, written otherwise
pub codes_as : {s t : Coding} {xs ys : List Bin} → ys ≡ xs → Codes s xs t → Codes s ys t
codes_as {s} {t} e h = subst (λ (bins : List Bin). Codes s bins t) (sym e) h

pub plain_then : {s t u : CoderState} {xs ys : List Bin} → CodesPlain s xs t → CodesPlain t ys u → CodesPlain s (xs ++ ys) u
plain_then {s} {t} {u} {xs} {ys} h k = record { coded = λ states known. codes_then (h.coded states known) (k.coded states known); live = k.live }

pub plain_as : {s t : CoderState} {xs ys : List Bin} → ys ≡ xs → CodesPlain s xs t → CodesPlain s ys t
plain_as {s} {t} e h = subst (λ (bins : List Bin). CodesPlain s bins t) (sym e) h

-- ---- bins that are coded in part: those that are left lead from here to where all of them lead from the start

pub record Leads (start : Coding) (all : List Bin) (now : Coding) (left : List Bin) : Type 0 where
  pub ready : IsReady now
  pub so : (t : Coding) → Codes now left t → Codes start all t

pub leads_start : {s : Coding} {all : List Bin} → IsReady s → Leads s all s all
leads_start r = record { ready = r; so = λ t h. h }

pub leads_on : {s t u : Coding} {all left more xs : List Bin} → left ≡ xs ++ more → Leads s all t left → Codes t xs u → Leads s all u more
leads_on e h k = record { ready = k.ready; so = λ v c. h.so v (codes_as e (codes_then k c)) }

pub leads_last : {s t u : Coding} {all left xs : List Bin} → left ≡ xs → Leads s all t left → Codes t xs u → Codes s all u
leads_last {u = u} e h k = h.so u (codes_as e k)

pub leads_end : {s t : Coding} {all left : List Bin} → left ≡ [] → Leads s all t left → Codes s all t
leads_end {t = t} e h = h.so t (codes_as e (codes_none h.ready))

pub record LeadsPlain (start : CoderState) (all : List Bin) (now : CoderState) (left : List Bin) : Type 0 where
  pub live : now.ended ≡ false
  pub so : (t : CoderState) → CodesPlain now left t → CodesPlain start all t

pub plain_start : {s : CoderState} {all : List Bin} → s.ended ≡ false → LeadsPlain s all s all
plain_start r = record { live = r; so = λ t h. h }

pub plain_on : {s t u : CoderState} {all left more xs : List Bin} → left ≡ xs ++ more → LeadsPlain s all t left → CodesPlain t xs u → LeadsPlain s all u more
plain_on e h k = record { live = k.live; so = λ v c. h.so v (plain_as e (plain_then k c)) }

pub plain_last : {s t u : CoderState} {all left xs : List Bin} → left ≡ xs → LeadsPlain s all t left → CodesPlain t xs u → CodesPlain s all u
plain_last {u = u} e h k = h.so u (plain_as e k)

pub plain_none : {s : CoderState} → s.ended ≡ false → CodesPlain s [] s
plain_none {s} live = record { coded = λ states known. codes_none (record { live = live; known = known }); live = live }

pub plain_end : {s t : CoderState} {all left : List Bin} → left ≡ [] → LeadsPlain s all t left → CodesPlain s all t
plain_end {t = t} e h = h.so t (plain_as e (plain_none h.live))

-- plain bins among others
pub codes_plainly : {s : Coding} {xs : List Bin} {t : CoderState} → IsReady s → CodesPlain s.coder xs t → Codes s xs (coding t s.states)
codes_plainly {s} r h = h.coded s.states r.known
