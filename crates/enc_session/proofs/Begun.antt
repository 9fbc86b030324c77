-- The access unit of a picture, from the session's words to the definition's.
use Rattle.std.proofs.Common.{ℕ, ◌+◌, ◌*◌, ◌%◌, ◌^◌, ◌≡◌, ◌≤◌, ◌<◌, ◌==◌, max, min, Bool, true, false, List, [], ◌∷◌, ◌++◌, length, map, Option, Some, None, IfSome, Result, Ok, Err, refl, ap, ap₂, sym, subst, ◌∙◌, arith, length-append}
use Rattle.std.specs.Prelude.{if◌then◌else◌, pos, ◌≤ℤ◌}
use Rattle.std.specs.List.{AllByRecursion}
use Rattle.enc_tables.specs.declared.records.PlanStep.{PlanStep}
use Rattle.enc_tables.specs.declared.records.SliceKind.{SliceKind}
use Rattle.enc_tables.specs.declared.records.SliceKind.TheVariants.{I}
use Rattle.bit_strings.specs.BitText.{BitText, Appends}
use Rattle.spec_basics.specs.Sizes.{in_macroblocks}
use Rattle.spec_bits.specs.Bits.{bits_of_bytes}
use Rattle.spec_bits.proofs.Digits.{length-bits_of_bytes}
use Rattle.spec_film.specs.Films.{Planes}
use Rattle.spec_headers.specs.MessageReaders.{AreDelays}
use Rattle.spec_buffer.specs.Buffer.{Rate}
use Rattle.spec_buffer.specs.Ledger.{Ledger as Spent, available, start_qp, initial_delay, filler_bytes as filler_count, CanBeFiller}
use Rattle.spec_buffer.proofs.Least.{fillers_are_least}
use Rattle.spec_plan.specs.Delays.{removal_ticks, output_ticks}
use Rattle.spec_plan.specs.Marks.{mark, KindFits}
use Rattle.spec_lists.specs.References.{Reference as Shown, kept}
use Rattle.spec_encoding.specs.Encoding.{with_payload}
use Rattle.picture_coder.specs.Units.{units_of}
use Rattle.spec_film_coder.specs.Pictures.{Shape, format}
use Rattle.spec_film_coder.specs.Sound.{StepFits}
use Rattle.spec_session.specs.Settings.{Completes}
use Rattle.spec_session.specs.Encodings.{rate_of}
use Rattle.spec_session.proofs.Settling.{completes}
use Rattle.ref_lists.specs.declared.held.Reference.{Reference}
use Rattle.ref_lists.specs.declared.store.RefStore.{RefStore}
use Rattle.ref_lists.specs.Held.{all_seen}
use Rattle.ref_lists.specs.Stored.{references_of, held_of}
use Rattle.buffer_control.specs.Seen.{rate_of as rate_in, spent_of}
use Rattle.unit_writer.specs.Parts.{filler_bytes}
use Rattle.enc_session.specs.declared.engine.Engine.{Engine}
use Rattle.enc_session.specs.declared.trials.Pick.{Pick}
use Rattle.enc_session.specs.Asking.{MayFollow, asked_of}
use Rattle.enc_session.specs.Ready.{Holds, settings_in, state_in}
use Rattle.enc_session.specs.Steps.{IsReset}
use Rattle.enc_session.specs.Trying.{Asked, PickLeft, IsTaken, slices_at, trial_of, trial_text}
use Rattle.enc_session.proofs.Accessing.{asked_in}
use Rattle.enc_session.proofs.AccessBytes.{length-filler}

-- ---- delays

initial_from : (first : Bool) (d e : ℕ) → 1 ≤ d → d < 2 ^ 32 → (let n = if first then d else max 1 (min 4294967295 e) in (1 ≤ n) × (n < 2 ^ 32))
initial_from true d e some few = (some, few)
initial_from false d e some few = (omega arith, omega arith)

initial_some : (idr : Bool) (t : Rate) (l : Spent) → 1 ≤ t.delay → t.delay < 2 ^ 32 → IfSome (if idr then Some (initial_delay t l) else None) (λ n. (1 ≤ n) × (n < 2 ^ 32))
unfolding initial_delay
initial_some true t l some few = initial_from (l.units == 0) t.delay _ some few
initial_some false t l some few = tt

late : (r : Bool) (d u : ℕ) → d < 1000000 → output_ticks r d u < 2 ^ 24
late true d u h = omega (arith, h)
late false d u h = omega (arith, h)

pub delays_are : (e : Engine) (st : PlanStep) (o : Option ℕ) (r out : ℕ) (b : Bool) → Holds e → (spent_of e.ledger).units ≤ 1000000 → st.display < 1000000 → o ≡ (if st.idr then Some (initial_delay (rate_in e.ledger) (spent_of e.ledger)) else None)
    → r ≡ removal_ticks (spent_of e.ledger).units e.last_idr → out ≡ output_ticks b st.display (spent_of e.ledger).units → AreDelays (record { initial = o; removal = r; output = out })
delays_are e st o r out b h few display eo er eu =
    let c : Completes e.settings e.head (settings_in e) = completes e.settings e.head (settings_in e) h.complete in
    let delay : (rate_in e.ledger).delay ≡ e.settings.delay = ap (λ (t : Rate). t.delay) h.rate in
    record {
      initial = subst (λ (x : Option ℕ). IfSome x (λ n. (1 ≤ n) × (n < 2 ^ 32))) (sym eo)
          (initial_some st.idr (rate_in e.ledger) (spent_of e.ledger) (subst (λ (n : ℕ). 1 ≤ n) (sym delay) c.some_delay) (subst (λ (n : ℕ). n < 2 ^ 32) (sym delay) h.range.delay));
      removal = subst (λ (n : ℕ). n < 2 ^ 24) (sym er) (omega (arith, few));
      output = subst (λ (n : ℕ). n < 2 ^ 24) (sym eu) (late b st.display (spent_of e.ledger).units display);
    }

-- ---- the store before a picture

pub none_seen : (rs : List Reference) → all_seen rs ≡ [] → rs ≡ []
none_seen [] e = refl
none_seen (r ∷ rs) e = absurd cc

idr_kind : (b : Bool) (kind : SliceKind) (st : PlanStep) → b ≡ true → StepFits b kind st → kind ≡ I
idr_kind true kind st e f = f.0
idr_kind false kind st e f = absurd cc

follow_by : (b : Bool) (st : PlanStep) (old new : RefStore) → st.idr ≡ b → IsReset b old new → StepFits st.idr st.kind st → (st.idr ≡ false → MayFollow old st) → MayFollow new st
follow_by true st old new i reset fits follows = record {
  step = fits;
  origin = subst (λ (rs : List Reference). AllByRecursion (λ r. pos 0 ≤ℤ r.poc) rs) (sym (none_seen (references_of new) reset.0)) tt;
  marks = subst (λ (k : SliceKind). KindFits k st.poc st.frame_num (map mark (held_of new))) (sym (idr_kind st.idr st.kind st i fits)) tt;
  none = λ e. reset.0;
  number = λ e. absurd (differ (sym i ∙ e));
}
  where
    differ : true ≡ false → ⊥
    differ e = absurd cc
follow_by false st old new i reset fits follows = subst (λ (s : RefStore). MayFollow s st) (sym reset) (follows i)

pub may_follow : (st : PlanStep) (old new : RefStore) → IsReset st.idr old new → StepFits st.idr st.kind st → (st.idr ≡ false → MayFollow old st) → MayFollow new st
may_follow st old new reset fits follows = follow_by st.idr st old new refl reset fits follows

pub kept_is : (b : Bool) (old new : RefStore) → IsReset b old new → held_of new ≡ kept b (held_of old)
kept_is true old new h = h.0
kept_is false old new h = ap (λ (s : RefStore). held_of s) h

-- ---- the unit

pub whole_bits : (xs : List ℕ) → length (bits_of_bytes xs) % 8 ≡ 0
whole_bits xs = let l = length-bits_of_bytes xs in omega (arith, l)

pub picked_whole : (a : Asked) (start have : ℕ) (old mid : BitText) (keeps : Reference) (pick : Pick) → length old.text % 8 ≡ 0 → PickLeft a start have old mid keeps (Ok pick) → length mid.text % 8 ≡ 0
picked_whole a start have old mid keeps pick h left =
    let t : IsTaken a (trial_of pick) (record old { room = have }) mid keeps = left.1 in
    let e : length mid.text ≡ length (old.text ++ trial_text a (trial_of pick)) = ap (λ (b : BitText). length b.text) t.text in
    let l = length-append old.text (trial_text a (trial_of pick)) in
    let w = whole_bits (units_of false a.step (map (with_payload (format a.shape)) (slices_at a (trial_of pick)))) in
    omega (arith, e, l, w, h)

pub filled : {E : Type 0} (t : Rate) (l : Spent) (bits n : ℕ) (old new : BitText) (r : Result (Unit {0}) E) → 1 ≤ t.num → n ≡ filler_count t l bits → length old.text + 8 * n ≤ old.room → Appends old new (bits_of_bytes (filler_bytes n)) r
    → new ≡ record old { text = old.text ++ bits_of_bytes (filler_bytes n) }
filled t l bits n old new (Ok done) num e fits h = h.1
filled t l bits n old new (Err er) num e fits h =
    let form : CanBeFiller n = subst (λ (k : ℕ). CanBeFiller k) (sym e) (fillers_are_least t l bits num).form in
    let a = length-filler n form in
    let b = length-bits_of_bytes (filler_bytes n) in
    absurd (omega (arith, a, b, fits, h.0))

-- ---- what is asked for

pub asked_is : (e : Engine) (st : PlanStep) (held : List Shown) (source : Planes) → Holds e → held ≡ kept st.idr (state_in e).held → asked_of e.coder e.settings e.idrs st held source ≡ asked_in (settings_in e) (state_in e) st source
asked_is e st held source h k =
    ap₂ (λ (a d : ℕ). let s : Shape = record { across = a; down = d; slices = e.coder.slices; t8x8 = e.settings.t8x8; range = e.settings.range } in let x : Asked = record { shape = s; held = held; step = st; idr_id = e.idrs % 2; source = source } in x) h.coder.across h.coder.down
    ∙ ap₂ (λ (n : ℕ) (rs : List Shown). let s : Shape = record { across = in_macroblocks e.head.width; down = in_macroblocks e.head.height; slices = n; t8x8 = e.settings.t8x8; range = e.settings.range } in let x : Asked = record { shape = s; held = rs; step = st; idr_id = e.idrs % 2; source = source } in x) h.coder.slices_are k

-- the engine once the unit is begun
abbrev pub begun : Engine → RefStore → BitText → Engine
begun e store b = record e { store = store; unit = b }

left_begun : (e : Engine) (store : RefStore) (b : BitText) (st : PlanStep) (source p : Planes) (start have : ℕ) (mid : BitText) (keeps : Reference) (r : Result Pick ℕ) → Holds e → held_of store ≡ kept st.idr (held_of e.store) → p ≡ source
    → start ≡ start_qp st.kind (spent_of e.ledger).qp → have ≡ available (rate_in e.ledger) (spent_of e.ledger)
    → PickLeft (asked_of e.coder e.settings e.idrs st (held_of store) p) start have b mid keeps r
    → PickLeft (asked_in (settings_in e) (state_in e) st source) (start_qp st.kind (state_in e).ledger.qp) (available (rate_of (settings_in e)) (state_in e).ledger) b mid keeps r
left_begun e store b st source p start have mid keeps r h k same es eh left =
    subst (λ (a : Asked). PickLeft a (start_qp st.kind (state_in e).ledger.qp) (available (rate_of (settings_in e)) (state_in e).ledger) b mid keeps r)
    (asked_is e st (held_of store) p h k ∙ ap (λ (x : Planes). asked_in (settings_in e) (state_in e) st x) same)
    (subst (λ (n : ℕ). PickLeft (asked_of e.coder e.settings e.idrs st (held_of store) p) n (available (rate_of (settings_in e)) (state_in e).ledger) b mid keeps r) es
    (subst (λ (n : ℕ). PickLeft (asked_of e.coder e.settings e.idrs st (held_of store) p) start n b mid keeps r) (eh ∙ ap (λ (t : Rate). available t (spent_of e.ledger)) h.rate) left))

pub left_is : (e f : Engine) (store : RefStore) (b : BitText) (st : PlanStep) (source p : Planes) (start have : ℕ) (mid : BitText) (keeps : Reference) (r : Result Pick ℕ) → f ≡ begun e store b → Holds e → held_of store ≡ kept st.idr (held_of e.store) → p ≡ source
    → start ≡ start_qp st.kind (spent_of f.ledger).qp → have ≡ available (rate_in f.ledger) (spent_of f.ledger)
    → PickLeft (asked_of f.coder f.settings f.idrs st (held_of f.store) p) start have f.unit mid keeps r
    → PickLeft (asked_in (settings_in e) (state_in e) st source) (start_qp st.kind (state_in e).ledger.qp) (available (rate_of (settings_in e)) (state_in e).ledger) b mid keeps r
left_is e f store b st source p start have mid keeps r is h k same es eh left =
    left_begun e store b st source p start have mid keeps r h k same
    (es ∙ ap (λ (x : Engine). start_qp st.kind (spent_of x.ledger).qp) is)
    (eh ∙ ap (λ (x : Engine). available (rate_in x.ledger) (spent_of x.ledger)) is)
    (subst (λ (x : Engine). PickLeft (asked_of x.coder x.settings x.idrs st (held_of x.store) p) start have x.unit mid keeps r) is left)

-- numbers of the ledger that are told of it begun
pub have_is : (e f : Engine) (store : RefStore) (b : BitText) (n : ℕ) → f ≡ begun e store b → Holds e → n ≡ available (rate_in f.ledger) (spent_of f.ledger) → n ≡ available (rate_of (settings_in e)) (state_in e).ledger
have_is e f store b n is h en = en ∙ ap (λ (x : Engine). available (rate_in x.ledger) (spent_of x.ledger)) is ∙ ap (λ (t : Rate). available t (spent_of e.ledger)) h.rate

pub filler_is : (e f : Engine) (store : RefStore) (b : BitText) (n bits : ℕ) → f ≡ begun e store b → Holds e → n ≡ filler_count (rate_in f.ledger) (spent_of f.ledger) bits → n ≡ filler_count (rate_of (settings_in e)) (state_in e).ledger bits
filler_is e f store b n bits is h en = en ∙ ap (λ (x : Engine). filler_count (rate_in x.ledger) (spent_of x.ledger) bits) is ∙ ap (λ (t : Rate). filler_count t (spent_of e.ledger) bits) h.rate

pub compared_is : (e f : Engine) (store : RefStore) (b : BitText) (st : PlanStep) (source p : Planes) (n : ℕ) (count : Asked → ℕ) → f ≡ begun e store b → Holds e → held_of store ≡ kept st.idr (held_of e.store) → p ≡ source
    → n ≡ count (asked_of f.coder f.settings f.idrs st (held_of f.store) p) → n ≡ count (asked_in (settings_in e) (state_in e) st source)
compared_is e f store b st source p n count is h k same en =
    en ∙ ap (λ (x : Engine). count (asked_of x.coder x.settings x.idrs st (held_of x.store) p)) is
    ∙ ap count (asked_is e st (held_of store) p h k ∙ ap (λ (x : Planes). asked_in (settings_in e) (state_in e) st x) same)
