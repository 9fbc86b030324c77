-- Where bins led the coder, and what the end of the code leaves in the buffer.
use Rattle.std.proofs.Common.{◌≡◌, ℕ, ◌+◌, ◌<◌, ◌≤◌, ◌⊎◌, inl, inr, Bool, true, false, List, [], ◌∷◌, ◌++◌, length, refl, sym, ap, subst, ◌∙◌, arith, length-append}
use Rattle.std.specs.Prelude.{Result, Ok, Err, IsErr, OnOk, OnErr}
use Rattle.std.proofs.lemmas.Bool.{false≢true}
use Rattle.enc_tables.specs.declared.records.CtxState.{CtxState}
use Rattle.spec_bits.specs.Golomb.{align_bits}
use Rattle.spec_bits.proofs.Digits.{length-digits}
use Rattle.spec_cabac.specs.Bins.{Bin as Decision}
use Rattle.spec_cabac.specs.Bins.Request.{Terminate}
use Rattle.spec_cabac.specs.Bins.Bin.{Answered}
use Rattle.spec_cabac.specs.Code.{Coded, coded_start, step, run, flushed, with_last_set, arith_code}
use Rattle.spec_syntax.specs.declared.Bin.{Bin}
use Rattle.spec_syntax.specs.Syntax.{at}
use Rattle.spec_syntax.specs.Elements.{end_of_slice}
use Rattle.spec_slice_data.specs.Coding.{asked}
use Rattle.spec_slice_data.specs.Decoding.{after_all}
use Rattle.spec_slice_data.proofs.Decoded.{asked_append}
use Rattle.bit_strings.specs.BitText.{BitText, Appends}
use Rattle.cabac_coder.specs.State.{CoderState, coded_of, stepped, FullAt}
use Rattle.bin_writer.specs.Coding.{Coding, coding, is_full_at, bins_step, Codes}
use Rattle.bin_writer.proofs.Coding.{code_nil}
use Rattle.bin_writer.proofs.Steps.{full_back}
use Rattle.bin_writer.proofs.Whole.{went, filled, kept}
use Rattle.slice_coder.specs.Left.{padded, buffer, Leaves, started_at}

-- ---- the code with its last bin

run_append : (xs ys : List Decision) (e : Coded) → run (xs ++ ys) e ≡ run ys (run xs e)
run_append [] ys e = refl
run_append (x ∷ xs) ys e = run_append xs ys (step x e)

abbrev led : List CtxState → List Bin → Coded
led states bins = run (asked states bins) coded_start

-- the last bin, and where it leads
abbrev last_bin : Decision
last_bin = Answered Terminate true

abbrev pub code_of : List CtxState → List Bin → List Bool
code_of states bins = arith_code (asked states (bins ++ at end_of_slice true ∷ []))

asked_last : (states : List CtxState) → asked states (at end_of_slice true ∷ []) ≡ last_bin ∷ []
unfolding asked
asked_last states = refl

code_is : (states : List CtxState) (bins : List Bin) → code_of states bins ≡ flushed (step last_bin (led states bins))
code_is states bins =
    ap (λ (ds : List Decision). flushed (run ds coded_start)) (asked_append states bins (at end_of_slice true ∷ []) ∙ ap (λ (ds : List Decision). asked states bins ++ ds) (asked_last (after_all states bins)))
    ∙ ap (λ (e : Coded). flushed e) (run_append (asked states bins) (last_bin ∷ []) coded_start)

same_shifts : (e : Coded) → (step last_bin e).shifts ≡ e.shifts
unfolding step
same_shifts e = refl

code_long : (states : List CtxState) (bins : List Bin) → length (code_of states bins) ≡ (led states bins).shifts + 9
code_long states bins =
    ap (λ (bits : List Bool). length bits) (code_is states bins)
    ∙ length-digits ((step last_bin (led states bins)).shifts + 9) (with_last_set (step last_bin (led states bins)).low)
    ∙ ap (λ (n : ℕ). n + 9) (same_shifts (led states bins))

pub no_shorter : (bits : List Bool) → length bits ≤ length (padded bits)
no_shorter bits = let e = length-append bits (align_bits (length bits)) in omega arith

too_long : (room : ℕ) (text code : List Bool) (n : ℕ) → length code ≡ n → room < length text + n → room < length (padded (text ++ code))
too_long room text code n e h =
    let l = length-append text code in
    let m = no_shorter (text ++ code) in
    omega arith

-- ---- where bins led

by_cases : (buf : BitText) (states last : List CtxState) (b : Bin) (bins : List Bin) (coder : CoderState) → Codes (coding (started_at buf) states) (b ∷ bins) (coding coder last)
    → (q : Bool) → is_full_at (started_at buf) (bins_step (coding (started_at buf) states) (b ∷ bins)) ≡ q
    → ((coder.full ≡ true) × (buf.room < length buf.text + ((led states (b ∷ bins)).shifts + 9))) ⊎ (coder ≡ stepped (started_at buf) (led states (b ∷ bins)) false)
by_cases buf states last b bins coder codes true e =
    let s : Coding = coding (started_at buf) states in
    elim (full_back false buf.room (length buf.text + ((led states (b ∷ bins)).shifts + 9)) e) [
      | inl bad ↦ absurd (false≢true bad)
      | inr more ↦ inl (ap (λ (t : Coding). t.coder.full) codes.same ∙ filled bins s b e, more)
    ]
by_cases buf states last b bins coder codes false e =
    let s : Coding = coding (started_at buf) states in
    inr (ap (λ (t : Coding). t.coder) (codes.same ∙ went bins s b e))

came : (buf : BitText) (states last : List CtxState) (bins : List Bin) (coder : CoderState) → Codes (coding (started_at buf) states) bins (coding coder last)
    → ((coder.full ≡ true) × (buf.room < length buf.text + ((led states bins).shifts + 9))) ⊎ (coder ≡ stepped (started_at buf) (led states bins) false)
unfolding asked
came buf states last [] coder codes = inr (ap (λ (t : Coding). t.coder) (codes.same ∙ code_nil (coding (started_at buf) states)))
came buf states last (b ∷ bins) coder codes = by_cases buf states last b bins coder codes (is_full_at (started_at buf) (bins_step (coding (started_at buf) states) (b ∷ bins))) refl

-- the last bin doesn't fit, or one before it didn't
pub failed : (buf : BitText) (states last : List CtxState) (bins : List Bin) (coder : CoderState) → Codes (coding (started_at buf) states) bins (coding coder last)
    → FullAt coder (step last_bin (coded_of coder)) → buf.room < length (padded (buf.text ++ code_of states bins))
failed buf states last bins coder codes full = too_long buf.room buf.text (code_of states bins) ((led states bins).shifts + 9) (code_long states bins) (more (came buf states last bins coder codes))
  where
    late : coder ≡ stepped (started_at buf) (led states bins) false → (coder.full ≡ true) ⊎ (coder.room < length coder.start + ((step last_bin (coded_of coder)).shifts + 9)) → buf.room < length buf.text + ((led states bins).shifts + 9)
    late e (inl f) = absurd (false≢true (sym (ap (λ (s : CoderState). s.full) e) ∙ f))
    late e (inr m) =
        let a : coder.room ≡ buf.room = ap (λ (s : CoderState). s.room) e in
        let b : length coder.start ≡ length buf.text = ap (λ (s : CoderState). length s.start) e in
        let c : coder.shifts ≡ (led states bins).shifts = ap (λ (s : CoderState). s.shifts) e in
        let d : (step last_bin (coded_of coder)).shifts ≡ coder.shifts = same_shifts (coded_of coder) in
        omega arith

    more : ((coder.full ≡ true) × (buf.room < length buf.text + ((led states bins).shifts + 9))) ⊎ (coder ≡ stepped (started_at buf) (led states bins) false) → buf.room < length buf.text + ((led states bins).shifts + 9)
    more (inl h) = h.1
    more (inr e) = late e full

-- what no bin changes
kept_room : (buf : BitText) (states last : List CtxState) (bins : List Bin) (coder : CoderState) → Codes (coding (started_at buf) states) bins (coding coder last) → coder.room ≡ buf.room
kept_room buf states last bins coder codes = ap (λ (t : Coding). t.coder.room) codes.same ∙ kept (λ s. s.room) (λ s f. refl) (λ s. refl) bins (coding (started_at buf) states)

kept_made : (buf : BitText) (states last : List CtxState) (bins : List Bin) (coder : CoderState) → Codes (coding (started_at buf) states) bins (coding coder last) → coder.made ≡ buf.made
kept_made buf states last bins coder codes = ap (λ (t : Coding). t.coder.made) codes.same ∙ kept (λ s. s.made) (λ s f. refl) (λ s. refl) bins (coding (started_at buf) states)

buffers : (room made room' made' : ℕ) (bits : List Bool) → room ≡ room' → made ≡ made' → buffer room made bits ≡ buffer room' made' bits
buffers room made room' made' bits a b = ap (λ (n : ℕ). buffer n made bits) a ∙ ap (λ (n : ℕ). buffer room' n bits) b

pub leaves_none : {A E : Type 0} (answer : Result A E) (room made : ℕ) (bits : List Bool) (new : BitText) → IsErr answer → room < length (padded bits) → new ≡ buffer room made [] → Leaves answer room made bits new
leaves_none (Ok a) room made bits new h more is = absurd (false≢true h)
leaves_none (Err x) room made bits new h more is = record { full = (λ _. more, λ _. refl); ok = tt; err = is }

-- where the last bin doesn't fit, the buffer is left empty
pub leaves_failed : {A E : Type 0} (answer : Result A E) (buf new : BitText) (states last : List CtxState) (bins : List Bin) (coder : CoderState) → Codes (coding (started_at buf) states) bins (coding coder last)
    → FullAt coder (step last_bin (coded_of coder)) → IsErr answer → new ≡ buffer coder.room coder.made [] → Leaves answer buf.room buf.made (buf.text ++ code_of states bins) new
leaves_failed answer buf new states last bins coder codes full h is =
    leaves_none answer buf.room buf.made (buf.text ++ code_of states bins) new h (failed buf states last bins coder codes full)
    (is ∙ buffers coder.room coder.made buf.room buf.made [] (kept_room buf states last bins coder codes) (kept_made buf states last bins coder codes))

-- where it fits, the bits stand there
pub finished : (buf : BitText) (states last : List CtxState) (bins : List Bin) (coder ended : CoderState) → Codes (coding (started_at buf) states) bins (coding coder last)
    → (FullAt coder (step last_bin (coded_of coder)) → ⊥) → ended ≡ stepped coder (step last_bin (coded_of coder)) true
    → buffer ended.room ended.made (ended.start ++ flushed (coded_of ended)) ≡ buffer buf.room buf.made (buf.text ++ code_of states bins)
finished buf states last bins coder ended codes fits is = elim (came buf states last bins coder codes) [
  | inl full ↦ absurd (fits (inl full.0))
  | inr e ↦
      ap (λ (s : CoderState). buffer s.room s.made (s.start ++ flushed (coded_of s))) (is ∙ ap (λ (s : CoderState). stepped s (step last_bin (coded_of s)) true) e)
      ∙ ap (λ (code : List Bool). buffer buf.room buf.made (buf.text ++ code)) (sym (code_is states bins))
]

-- zeros to the byte behind it
pub leaves_short : {A E F : Type 0} (answer : Result A E) (aligned : Result (Unit {0}) F) (room made : ℕ) (bits : List Bool) (old new left : BitText) → old ≡ buffer room made bits
    → Appends old new (align_bits (length old.text)) aligned → IsErr aligned → IsErr answer → left ≡ record new { text = [] } → Leaves answer room made bits left
leaves_short answer (Ok a) room made bits old new left is h bad k l = absurd (false≢true bad)
leaves_short answer (Err f) room made bits old new left is h bad k l =
    let more : room < length bits + length (align_bits (length bits)) = subst (λ (b : BitText). b.room < length b.text + length (align_bits (length b.text))) is h.0 in
    let long = length-append bits (align_bits (length bits)) in
    leaves_none answer room made bits left k (omega arith) (l ∙ ap (λ (b : BitText). (let c : BitText = record b { text = [] } in c)) (h.1 ∙ is))

pub leaves_all : {E F : Type 0} (aligned : Result (Unit {0}) F) (room made : ℕ) (bits : List Bool) (old new : BitText) → old ≡ buffer room made bits
    → Appends old new (align_bits (length old.text)) aligned → (IsErr aligned → ⊥) → Leaves {A = Unit {0}} {E = E} (Ok tt) room made bits new
leaves_all (Err f) room made bits old new is h good = absurd (good refl)
leaves_all (Ok a) room made bits old new is h good =
    let fits : length bits + length (align_bits (length bits)) ≤ room = subst (λ (b : BitText). length b.text + length (align_bits (length b.text)) ≤ b.room) is h.0 in
    let long = length-append bits (align_bits (length bits)) in
    record {
      full = (λ bad. absurd (false≢true bad), λ more. absurd (omega arith));
      ok = h.1 ∙ ap (λ (b : BitText). (let c : BitText = record b { text = padded b.text } in c)) is;
      err = tt;
    }

pub on_err : {A E : Type 0} {X : Type 0} (answer : Result A E) → IsErr answer → OnErr answer X → X
on_err (Ok a) bad x = absurd (false≢true bad)
on_err (Err e) bad x = x

pub on_ok : {A E : Type 0} {X : Type 0} (answer : Result A E) → (IsErr answer → ⊥) → OnOk answer X → X
on_ok (Ok a) good x = x
on_ok (Err e) good x = absurd (good refl)
