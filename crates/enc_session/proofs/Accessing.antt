-- Access units of trials, as definitions and as they are written.
use Rattle.std.proofs.Common.{ℕ, ◌%◌, ◌^◌, ◌≡◌, ◌≤◌, Bool, true, false, List, [], ◌∷◌, ◌++◌, length, map, Option, Some, None, Ok, refl, ap, sym, subst, ◌∙◌, length-append, append_assoc, append-nil}
use Rattle.std.specs.Prelude.{if◌then◌else◌}
use Rattle.std.specs.List.{flat_map, All}
use Rattle.std.proofs.lemmas.List.Elements.{All-append}
use Rattle.enc_tables.specs.declared.records.PlanStep.{PlanStep}
use Rattle.bit_strings.specs.BitText.{BitText}
use Rattle.spec_bits.specs.Bits.{IsByte, bits_of_bytes}
use Rattle.spec_bits.specs.Units.{written}
use Rattle.spec_bits.proofs.Digits.{bits_of_bytes-append, bits_of_bytes-none, length-bits_of_bytes}
use Rattle.spec_film.specs.Films.{Planes}
use Rattle.spec_headers.specs.declared.heads.SeqHead.{SeqHead}
use Rattle.spec_headers.specs.MessageReaders.{Delays}
use Rattle.spec_lists.specs.References.{Reference as Shown, kept}
use Rattle.spec_slice_payload.specs.Layer.{Format, Slice}
use Rattle.spec_buffer.specs.Ledger.{available, start_qp, CanBeFiller, filler_bytes as filler_count}
use Rattle.spec_buffer.proofs.Least.{fillers_are_least}
use Rattle.spec_decoder.specs.Frames.{frames}
use Rattle.spec_decoder.specs.Pictures.{made}
use Rattle.spec_decoder.specs.Macroblocks.{Slice as Read, of_records}
use Rattle.spec_encoding.specs.Encoding.{with_payload}
use Rattle.spec_pictures.specs.Coded.{CodedSlice, slices_in}
use Rattle.spec_pictures.specs.Accesses.{Access, access_bytes, slice_nals, is_set, picture_of}
use Rattle.spec_coding.specs.Encoding.{State, Fits, Refused}
use Rattle.spec_coding.specs.Trials.{Trial, trials, coarsest_trial, first_fit, supplement_unit, filler_units, delays_of, slices_by, unit_by, bits_by, picked_by, by_trial}
use Rattle.spec_film_coder.specs.Pictures.{Shape, shape, format, film_coder, plain_picture, coarsest_picture, compared_at}
use Rattle.spec_session.specs.Settings.{SessionSettings}
use Rattle.spec_session.specs.Encodings.{coder_of, rate_of, sequence_of}
use Rattle.ref_lists.specs.declared.held.Reference.{Reference}
use Rattle.picture_coder.specs.Kept.{IsKept, shown_by}
use Rattle.picture_coder.specs.Units.{units_of}
use Rattle.unit_writer.specs.Parts.{set_bytes, message_bytes, later_bytes, filler_bytes}
use Rattle.enc_session.specs.declared.trials.Pick.{Pick}
use Rattle.enc_session.specs.declared.units.Made.{Made}
use Rattle.enc_session.specs.Trying.{Asked, slices_at, trial_text, trial_bits, trial_of, IsTaken, PickLeft}
use Rattle.enc_session.specs.Fronts.{front_bytes}
use Rattle.enc_session.specs.Steps.{film_in, choice_in, IsMade}
use Rattle.enc_session.proofs.Fitting.{fits_same}
use Rattle.enc_session.proofs.AccessBytes.{front_are_bytes, units_are_bytes, filler_are_bytes}

-- ---- laws of the crates below

pub record Laws : Type 0 where
  pub idr : (s : SeqHead) (flags : Bool × Bool) (d : Delays) (n : ℕ) (a : Access Read) → a.step.idr ≡ true → a.before ≡ supplement_unit d ∷ [] → a.behind ≡ filler_units n
      → access_bytes s flags a ≡ set_bytes s flags true ++ (message_bytes false d ++ (later_bytes (slice_nals a.step a.slices) ++ filler_bytes n))
  pub other : (s : SeqHead) (flags : Bool × Bool) (d : Delays) (n : ℕ) (a : Access Read) → a.step.idr ≡ false → a.before ≡ supplement_unit d ∷ [] → a.behind ≡ filler_units n
      → access_bytes s flags a ≡ message_bytes true d ++ (later_bytes (slice_nals a.step a.slices) ++ filler_bytes n)
  pub units : (st : PlanStep) (cs : List (CodedSlice Read)) → flat_map written (map (λ m. (is_set m, m)) (slice_nals st cs)) ≡ units_of false st cs
  pub plain : (s : Shape) (held : List Shown) (st : PlanStep) (number qp : ℕ) (source : Planes) → plain_picture s held st (number % 2) qp source ≡ plain_picture s held st number qp source
  pub coarsest : (s : Shape) (held : List Shown) (st : PlanStep) (number : ℕ) (source : Planes) → coarsest_picture s held st (number % 2) source ≡ coarsest_picture s held st number source

-- ---- what is asked for

abbrev pub asked_in : SessionSettings → State → PlanStep → Planes → Asked
asked_in f s st source = record { shape = shape (coder_of f); held = kept st.idr s.held; step = st; idr_id = s.idrs % 2; source = source }

-- ---- the bytes of an access unit

bytes_by : Laws → (q : SeqHead) (flags : Bool × Bool) (d : Delays) (n : ℕ) (a : Access Read) → a.before ≡ supplement_unit d ∷ [] → a.behind ≡ filler_units n → (b : Bool) → a.step.idr ≡ b
    → access_bytes q flags a ≡ front_bytes q flags b d ++ (units_of false a.step a.slices ++ filler_bytes n)
bytes_by laws q flags d n a before behind true i =
    laws.idr q flags d n a i before behind
    ∙ ap (λ (us : List ℕ). set_bytes q flags true ++ (message_bytes false d ++ (us ++ filler_bytes n))) (laws.units a.step a.slices)
    ∙ sym (append_assoc (set_bytes q flags true) (message_bytes false d) (units_of false a.step a.slices ++ filler_bytes n))
bytes_by laws q flags d n a before behind false i =
    laws.other q flags d n a i before behind
    ∙ ap (λ (us : List ℕ). message_bytes true d ++ (us ++ filler_bytes n)) (laws.units a.step a.slices)

pub bytes_are : Laws → (q : SeqHead) (flags : Bool × Bool) (d : Delays) (n : ℕ) (a : Access Read) → a.before ≡ supplement_unit d ∷ [] → a.behind ≡ filler_units n
    → access_bytes q flags a ≡ front_bytes q flags a.step.idr d ++ (units_of false a.step a.slices ++ filler_bytes n)
bytes_are laws q flags d n a before behind = bytes_by laws q flags d n a before behind a.step.idr refl

-- the slices of a trial with their payloads
slices_by_kind : Laws → (f : SessionSettings) (s : State) (st : PlanStep) (source : Planes) (qp : ℕ) (b : Bool)
    → map (with_payload (format (shape (coder_of f)))) (if b then coarsest_picture (shape (coder_of f)) (kept st.idr s.held) st (s.idrs % 2) source else plain_picture (shape (coder_of f)) (kept st.idr s.held) st (s.idrs % 2) qp source)
    ≡ (if b then map (with_payload (format (shape (coder_of f)))) (coarsest_picture (shape (coder_of f)) (kept st.idr s.held) st s.idrs source) else map (with_payload (format (shape (coder_of f)))) (plain_picture (shape (coder_of f)) (kept st.idr s.held) st s.idrs qp source))
slices_by_kind laws f s st source qp true = ap (λ (ss : List Slice). map (with_payload (format (shape (coder_of f)))) ss) (laws.coarsest (shape (coder_of f)) (kept st.idr s.held) st s.idrs source)
slices_by_kind laws f s st source qp false = ap (λ (ss : List Slice). map (with_payload (format (shape (coder_of f)))) ss) (laws.plain (shape (coder_of f)) (kept st.idr s.held) st s.idrs qp source)

pub slices_are : Laws → (f : SessionSettings) (s : State) (st : PlanStep) (source : Planes) (t : Trial)
    → map (with_payload (format (shape (coder_of f)))) (slices_at (asked_in f s st source) t) ≡ slices_by (film_coder (coder_of f)) s st source t
unfolding slices_by
slices_are laws f s st source t = slices_by_kind laws f s st source t.qp t.coarsest

-- the units before the slices, those of the slices, and filler
pub text_is : Laws → (f : SessionSettings) (s : State) (st : PlanStep) (source : Planes) (n : ℕ) (t : Trial)
    → (bits_of_bytes (front_bytes (sequence_of f) (true, f.t8x8) st.idr (delays_of (film_in f) s st)) ++ trial_text (asked_in f s st source) t) ++ bits_of_bytes (filler_bytes n)
    ≡ bits_of_bytes (access_bytes (sequence_of f) (true, f.t8x8) (unit_by (film_in f) (film_coder (coder_of f)) s st source n t))
text_is laws f s st source n t =
    let front : List ℕ = front_bytes (sequence_of f) (true, f.t8x8) st.idr (delays_of (film_in f) s st) in
    let cs : List (CodedSlice Read) = slices_by (film_coder (coder_of f)) s st source t in
    ap (λ (xs : List (CodedSlice Read)). (bits_of_bytes front ++ bits_of_bytes (units_of false st xs)) ++ bits_of_bytes (filler_bytes n)) (slices_are laws f s st source t)
    ∙ append_assoc (bits_of_bytes front) (bits_of_bytes (units_of false st cs)) (bits_of_bytes (filler_bytes n))
    ∙ ap (λ (bs : List Bool). bits_of_bytes front ++ bs) (sym (bits_of_bytes-append (units_of false st cs) (filler_bytes n)))
    ∙ sym (bits_of_bytes-append front (units_of false st cs ++ filler_bytes n))
    ∙ ap (λ (xs : List ℕ). bits_of_bytes xs) (sym (bytes_are laws (sequence_of f) (true, f.t8x8) (delays_of (film_in f) s st) n (unit_by (film_in f) (film_coder (coder_of f)) s st source n t) refl refl))

no_filler : bits_of_bytes (filler_bytes 0) ≡ []
no_filler = bits_of_bytes-none

-- without filler, and how many bits that is
pub bare_is : Laws → (f : SessionSettings) (s : State) (st : PlanStep) (source : Planes) (t : Trial)
    → bits_of_bytes (front_bytes (sequence_of f) (true, f.t8x8) st.idr (delays_of (film_in f) s st)) ++ trial_text (asked_in f s st source) t
    ≡ bits_of_bytes (access_bytes (sequence_of f) (true, f.t8x8) (unit_by (film_in f) (film_coder (coder_of f)) s st source 0 t))
bare_is laws f s st source t =
    let front : List ℕ = front_bytes (sequence_of f) (true, f.t8x8) st.idr (delays_of (film_in f) s st) in
    sym (append-nil (bits_of_bytes front ++ trial_text (asked_in f s st source) t))
    ∙ ap (λ (bs : List Bool). (bits_of_bytes front ++ trial_text (asked_in f s st source) t) ++ bs) (sym no_filler)
    ∙ text_is laws f s st source 0 t

pub bits_are : Laws → (f : SessionSettings) (s : State) (st : PlanStep) (source : Planes) (t : Trial)
    → trial_bits (length (bits_of_bytes (front_bytes (sequence_of f) (true, f.t8x8) st.idr (delays_of (film_in f) s st)))) (asked_in f s st source) t ≡ bits_by (film_in f) (film_coder (coder_of f)) s st source t
unfolding bits_by
bits_are laws f s st source t =
    let front : List ℕ = front_bytes (sequence_of f) (true, f.t8x8) st.idr (delays_of (film_in f) s st) in
    sym (length-append (bits_of_bytes front) (trial_text (asked_in f s st source) t))
    ∙ ap (λ (bs : List Bool). length bs) (bare_is laws f s st source t)
    ∙ length-bits_of_bytes (access_bytes (sequence_of f) (true, f.t8x8) (unit_by (film_in f) (film_coder (coder_of f)) s st source 0 t))

-- ---- the choice

-- what is picked here is what is chosen
pub picked_here : Laws → (f : SessionSettings) (s : State) (st : PlanStep) (source : Planes) (t : Trial)
    → first_fit (trial_bits (length (bits_of_bytes (front_bytes (sequence_of f) (true, f.t8x8) st.idr (delays_of (film_in f) s st)))) (asked_in f s st source)) (available (rate_of f) s.ledger) (trials (start_qp st.kind s.ledger.qp)) ≡ Some t
    → (choice_in f).chosen s st source ≡ Fits (picked_by (film_in f) (film_coder (coder_of f)) s st source t)
unfolding by_trial
picked_here laws f s st source t e =
    ap (λ (o : Option Trial). by_trial (film_in f) (film_coder (coder_of f)) s st source o)
    (sym (fits_same (trial_bits (length (bits_of_bytes (front_bytes (sequence_of f) (true, f.t8x8) st.idr (delays_of (film_in f) s st)))) (asked_in f s st source)) (bits_by (film_in f) (film_coder (coder_of f)) s st source) (available (rate_of f) s.ledger) (trials (start_qp st.kind s.ledger.qp)) (bits_are laws f s st source)) ∙ e)

pub refused_here : Laws → (f : SessionSettings) (s : State) (st : PlanStep) (source : Planes) (need : ℕ)
    → first_fit (trial_bits (length (bits_of_bytes (front_bytes (sequence_of f) (true, f.t8x8) st.idr (delays_of (film_in f) s st)))) (asked_in f s st source)) (available (rate_of f) s.ledger) (trials (start_qp st.kind s.ledger.qp)) ≡ None
    → need ≡ trial_bits (length (bits_of_bytes (front_bytes (sequence_of f) (true, f.t8x8) st.idr (delays_of (film_in f) s st)))) (asked_in f s st source) coarsest_trial
    → (choice_in f).chosen s st source ≡ Refused need (available (rate_of f) s.ledger)
unfolding by_trial
refused_here laws f s st source need e n =
    ap (λ (o : Option Trial). by_trial (film_in f) (film_coder (coder_of f)) s st source o)
    (sym (fits_same (trial_bits (length (bits_of_bytes (front_bytes (sequence_of f) (true, f.t8x8) st.idr (delays_of (film_in f) s st)))) (asked_in f s st source)) (bits_by (film_in f) (film_coder (coder_of f)) s st source) (available (rate_of f) s.ledger) (trials (start_qp st.kind s.ledger.qp)) (bits_are laws f s st source)) ∙ e)
    ∙ ap (λ (k : ℕ). Refused k (available (rate_of f) s.ledger)) (sym (n ∙ bits_are laws f s st source coarsest_trial))

-- ---- the picture

read_of : (g : Format) (ss : List Slice) → slices_in (map (with_payload g) ss) ≡ map of_records ss
read_of g [] = refl
read_of g (s ∷ ss) = ap (λ (xs : List Read). of_records s ∷ xs) (read_of g ss)

pub shown_is : Laws → (f : SessionSettings) (s : State) (st : PlanStep) (source : Planes) (n : ℕ) (t : Trial)
    → shown_by (shape (coder_of f)) (kept st.idr s.held) st (slices_at (asked_in f s st source) t) ≡ picture_of frames (sequence_of f) s.held (unit_by (film_in f) (film_coder (coder_of f)) s st source n t)
unfolding made
shown_is laws f s st source n t =
    ap (λ (xs : List Read). made frames (sequence_of f) st.frame_num st.poc (kept st.idr s.held) xs)
    (sym (read_of (format (shape (coder_of f))) (slices_at (asked_in f s st source) t)) ∙ ap (λ (cs : List (CodedSlice Read)). slices_in cs) (slices_are laws f s st source t))

-- ---- together

pub made_is : Laws → (f : SessionSettings) (s : State) (st : PlanStep) (source : Planes) (old mid new : BitText) (keeps : Reference) (pick : Pick) (m : Made) (n : ℕ)
    → old.text ≡ bits_of_bytes (front_bytes (sequence_of f) (true, f.t8x8) st.idr (delays_of (film_in f) s st))
    → PickLeft (asked_in f s st source) (start_qp st.kind s.ledger.qp) (available (rate_of f) s.ledger) old mid keeps (Ok pick)
    → m.qp ≡ pick.qp → m.coarsest ≡ pick.coarsest → m.bits ≡ length mid.text → m.filler ≡ n → n ≡ filler_count (rate_of f) s.ledger (length mid.text) → m.have ≡ available (rate_of f) s.ledger
    → m.compared ≡ compared_at (shape (coder_of f)) (kept st.idr s.held) st source → m.compared ≤ 2 ^ 34 → new.text ≡ mid.text ++ bits_of_bytes (filler_bytes n) → 1 ≤ (rate_of f).num
    → IsMade f s st source m new keeps (picked_by (film_in f) (film_coder (coder_of f)) s st source (trial_of pick))
unfolding picked_by
made_is laws f s st source old mid new keeps pick m n front left eq ec eb ef en eh ek small text num =
    let a : Asked = asked_in f s st source in
    let t : Trial = trial_of pick in
    let taken : IsTaken a t (record old { room = available (rate_of f) s.ledger }) mid keeps = left.1 in
    let words : List ℕ = front_bytes (sequence_of f) (true, f.t8x8) st.idr (delays_of (film_in f) s st) in
    let mid_is : mid.text ≡ bits_of_bytes words ++ trial_text a t = ap (λ (b : BitText). b.text) taken.text ∙ ap (λ (xs : List Bool). xs ++ trial_text a t) front in
    let bits : length mid.text ≡ bits_by (film_in f) (film_coder (coder_of f)) s st source t =
    ap (λ (xs : List Bool). length xs) mid_is ∙ length-append (bits_of_bytes words) (trial_text a t) ∙ bits_are laws f s st source t in
    let count : n ≡ filler_count (rate_of f) s.ledger (bits_by (film_in f) (film_coder (coder_of f)) s st source t) = en ∙ ap (λ (k : ℕ). filler_count (rate_of f) s.ledger k) bits in
    let count_n : ℕ = filler_count (rate_of f) s.ledger (bits_by (film_in f) (film_coder (coder_of f)) s st source t) in
    let form : CanBeFiller count_n = (fillers_are_least (rate_of f) s.ledger (bits_by (film_in f) (film_coder (coder_of f)) s st source t) num).form in
    record {
      chosen = picked_here laws f s st source t (subst (λ (xs : List Bool). first_fit (trial_bits (length xs) a) (available (rate_of f) s.ledger) (trials (start_qp st.kind s.ledger.qp)) ≡ Some t) front left.0);
      qp = eq;
      coarsest = ec;
      bits = eb ∙ bits;
      filler = ef ∙ count;
      have = eh;
      compared = ek;
      small = small;
      text = text ∙ ap (λ (xs : List Bool). xs ++ bits_of_bytes (filler_bytes n)) mid_is
          ∙ ap (λ (k : ℕ). (bits_of_bytes words ++ trial_text a t) ++ bits_of_bytes (filler_bytes k)) count
          ∙ text_is laws f s st source (filler_count (rate_of f) s.ledger (bits_by (film_in f) (film_coder (coder_of f)) s st source t)) t;
      are_bytes = subst (λ (xs : List ℕ). All IsByte xs) (sym (bytes_are laws (sequence_of f) (true, f.t8x8) (delays_of (film_in f) s st) count_n (unit_by (film_in f) (film_coder (coder_of f)) s st source count_n t) refl refl))
          (All-append IsByte words _ (front_are_bytes (sequence_of f) f.t8x8 st.idr (delays_of (film_in f) s st))
          (All-append IsByte _ (filler_bytes count_n) (subst (λ (cs : List (CodedSlice Read)). All IsByte (units_of false st cs)) (slices_are laws f s st source t) (units_are_bytes st (format (shape (coder_of f))) (slices_at a t))) (filler_are_bytes count_n form)));
      shown = subst (λ (x : Shown). IsKept keeps x) (shown_is laws f s st source (filler_count (rate_of f) s.ledger (bits_by (film_in f) (film_coder (coder_of f)) s st source t)) t) taken.shown;
    }
