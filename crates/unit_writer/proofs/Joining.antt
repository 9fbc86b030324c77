-- Units one behind another.
use Rattle.std.proofs.Common.{ℕ, ◌+◌, ◌%◌, ◌≡◌, ◌≤◌, ◌<◌, ◌==◌, List, [], ◌∷◌, ◌++◌, length, take, Bool, true, false, Result, Ok, Err, max, refl, ap, sym, ◌∙◌, arith, length-append, append_assoc, append-nil}
use Rattle.std.specs.Prelude.{IsErr, replicate, if◌then◌else◌}
use Rattle.std.proofs.lemmas.Bool.Decides.{nat_tests}
use Rattle.std.specs.List.{flat_map}
use Rattle.std.proofs.lemmas.Bool.{false≢true}
use Rattle.std.proofs.lemmas.List.{take_at}
use Rattle.spec_bits.specs.Bits.{bits_of_bytes}
use Rattle.spec_bits.specs.Units.{Nal, written, filler_unit, filler_payload}
use Rattle.spec_bits.proofs.Digits.{bits_of_bytes-append, bits_of_bytes-none, length-bits_of_bytes}
use Rattle.spec_headers.specs.declared.heads.SeqHead.{SeqHead}
use Rattle.spec_headers.specs.MessageReaders.{Delays}
use Rattle.spec_decoder.specs.Macroblocks.{Slice as Read}
use Rattle.spec_pictures.specs.Accesses.{Access, access_bytes, access_nals, set_nals, started, is_set, slice_nals, sequence_nal, picture_nal}
use Rattle.spec_coding.specs.Trials.{supplement_unit, filler_units}
use Rattle.bit_strings.specs.BitText.{BitText, Appends}
use Rattle.unit_writer.specs.Parts.{set_bytes, message_bytes, later_bytes, filler_bytes}
use Rattle.unit_writer.proofs.Making.{with_more}

-- ---- two units into one buffer

-- the first unit doesn't fit, and so both don't
pub first_full : {E : Type 0} (r : Result (Unit {0}) E) (old new : BitText) (u v : List ℕ) → IsErr r → Appends old new (bits_of_bytes u) r → (old.room < length old.text + length (bits_of_bytes (u ++ v))) × (new ≡ old)
first_full (Ok a) old new u v bad h = absurd (false≢true bad)
first_full (Err e) old new u v bad h =
    let long = length-append (bits_of_bytes u) (bits_of_bytes v) in
    let both : length (bits_of_bytes (u ++ v)) ≡ length (bits_of_bytes u ++ bits_of_bytes v) = ap (λ (xs : List Bool). length xs) (bits_of_bytes-append u v) in
    let more : old.room < length old.text + length (bits_of_bytes u) = h.0 in
    (omega arith, h.1)

-- the first one was written
pub first_written : {E : Type 0} (r : Result (Unit {0}) E) (old new : BitText) (u : List ℕ) → (IsErr r → ⊥) → Appends old new (bits_of_bytes u) r → new ≡ with_more old (bits_of_bytes u)
first_written (Ok a) old new u good h = h.1
first_written (Err e) old new u good h = absurd (good refl)

-- the second one doesn't fit, and the first is taken back
pub second_full : {E : Type 0} (r : Result (Unit {0}) E) (old mid now new : BitText) (u v : List ℕ) (start : ℕ) → start ≡ length old.text → mid ≡ with_more old (bits_of_bytes u) → IsErr r → Appends mid now (bits_of_bytes v) r
    → (let e : BitText = record now { text = take start now.text } in new ≡ e) → (old.room < length old.text + length (bits_of_bytes (u ++ v))) × (new ≡ old)
second_full (Ok a) old mid now new u v start begins first bad h cut = absurd (false≢true bad)
second_full (Err e) old mid now new u v start begins first bad h cut =
    let long = length-append (bits_of_bytes u) (bits_of_bytes v) in
    let both : length (bits_of_bytes (u ++ v)) ≡ length (bits_of_bytes u ++ bits_of_bytes v) = ap (λ (xs : List Bool). length xs) (bits_of_bytes-append u v) in
    let more : mid.room < length mid.text + length (bits_of_bytes v) = h.0 in
    let room : mid.room ≡ old.room = ap (λ (x : BitText). x.room) first in
    let text : length mid.text ≡ length (old.text ++ bits_of_bytes u) = ap (λ (x : BitText). length x.text) first in
    let joined = length-append old.text (bits_of_bytes u) in (
      omega arith,
      cut
          ∙ ap (λ (x : BitText). (let e : BitText = record x { text = take start x.text } in e)) (h.1 ∙ first)
          ∙ ap (λ (xs : List Bool). (let e : BitText = record old { text = xs } in e)) (take_at old.text (bits_of_bytes u) start (sym begins)),
    )

pub both_written : {E : Type 0} (r : Result (Unit {0}) E) (old mid new : BitText) (u v : List ℕ) → mid ≡ with_more old (bits_of_bytes u) → (IsErr r → ⊥) → Appends mid new (bits_of_bytes v) r
    → (length old.text + length (bits_of_bytes (u ++ v)) ≤ old.room) × (new ≡ with_more old (bits_of_bytes (u ++ v)))
both_written (Err e) old mid new u v first good h = absurd (good refl)
both_written (Ok a) old mid new u v first good h =
    let long = length-append (bits_of_bytes u) (bits_of_bytes v) in
    let both : length (bits_of_bytes (u ++ v)) ≡ length (bits_of_bytes u ++ bits_of_bytes v) = ap (λ (xs : List Bool). length xs) (bits_of_bytes-append u v) in
    let fits : length mid.text + length (bits_of_bytes v) ≤ mid.room = h.0 in
    let room : mid.room ≡ old.room = ap (λ (x : BitText). x.room) first in
    let text : length mid.text ≡ length (old.text ++ bits_of_bytes u) = ap (λ (x : BitText). length x.text) first in
    let joined = length-append old.text (bits_of_bytes u) in (
      omega arith,
      h.1
          ∙ ap (λ (x : BitText). with_more x (bits_of_bytes v)) first
          ∙ ap (λ (xs : List Bool). (let e : BitText = record old { text = xs } in e)) (append_assoc old.text (bits_of_bytes u) (bits_of_bytes v) ∙ ap (λ (xs : List Bool). old.text ++ xs) (sym (bits_of_bytes-append u v))),
    )

-- a unit is whole bytes
pub whole_behind : {E : Type 0} (r : Result (Unit {0}) E) (old new : BitText) (u : List ℕ) → length old.text % 8 ≡ 0 → Appends old new (bits_of_bytes u) r → length new.text % 8 ≡ 0
whole_behind (Ok a) old new u h e =
    let text : length new.text ≡ length (old.text ++ bits_of_bytes u) = ap (λ (x : BitText). length x.text) e.1 in
    let joined = length-append old.text (bits_of_bytes u) in
    let bytes = length-bits_of_bytes u in
    omega arith
whole_behind (Err a) old new u h e = ap (λ (x : BitText). length x.text % 8) e.1 ∙ h

-- the two sets, in the words of access units
pub sets_are : (s : SeqHead) (flags : Bool × Bool) → written (true, sequence_nal s) ++ written (true, picture_nal flags) ≡ set_bytes s flags true
sets_are s flags = ap (λ (xs : List ℕ). written (true, sequence_nal s) ++ xs) (sym (append-nil (written (true, picture_nal flags))))

-- ---- filler

pub no_filler : (n : ℕ) (old : BitText) → n ≡ 0 → length old.text ≤ old.room → (length old.text + length (bits_of_bytes (filler_bytes n)) ≤ old.room) × (old ≡ with_more old (bits_of_bytes (filler_bytes n)))
no_filler n old is fits =
    let none : bits_of_bytes (filler_bytes n) ≡ [] = ap (λ (k : ℕ). bits_of_bytes (filler_bytes k)) is ∙ bits_of_bytes-none in
    let len : length (bits_of_bytes (filler_bytes n)) ≡ 0 = ap (λ (xs : List Bool). length xs) none in
    (omega arith, ap (λ (xs : List Bool). (let e : BitText = record old { text = xs } in e)) (sym (append-nil old.text)) ∙ ap (λ (xs : List Bool). with_more old xs) (sym none))

filler_nal : ℕ → Nal
filler_nal n = record { ref_idc = 0; kind = 12; payload = filler_payload n }

same_payload : (n k : ℕ) → k ≡ max n 5 → filler_payload k ≡ filler_payload n
same_payload n k e = ap (λ (m : ℕ). replicate m 255 ++ (128 ∷ [])) (omega (arith, e))

pub filler_is : (n k : ℕ) → (n ≡ 0 → ⊥) → k ≡ max n 5 → filler_unit k ≡ filler_bytes n
unfolding filler_unit filler_nal
filler_is n k some e =
    ap (λ (xs : List ℕ). written (false, (let u : Nal = record { ref_idc = 0; kind = 12; payload = xs } in u))) (same_payload n k e)
    ∙ sym (append-nil (written (false, filler_nal n)))
    ∙ by (n == 0) (is_not n some)
  where
    is_not : (m : ℕ) → (m ≡ 0 → ⊥) → (m == 0) ≡ false
    is_not m h = grind (arith, nat_tests, h)

    by : (b : Bool) → b ≡ false → written (false, filler_nal n) ++ [] ≡ later_bytes (if b then [] else filler_nal n ∷ [])
    by false none = refl
    by true none = absurd (false≢true (sym none))

-- ---- access units

later_then : (xs ys : List Nal) → later_bytes (xs ++ ys) ≡ later_bytes xs ++ later_bytes ys
later_then [] ys = refl
later_then (x ∷ xs) ys = ap (λ (bytes : List ℕ). written (is_set x, x) ++ bytes) (later_then xs ys) ∙ sym (append_assoc (written (is_set x, x)) (later_bytes xs) (later_bytes ys))

bytes_at : SeqHead → Bool × Bool → Bool → List Nal → List Nal → List Nal → List ℕ
bytes_at s flags idr before slices behind = flat_map written (started (set_nals s flags idr ++ (before ++ (slices ++ behind))))

access_is : (s : SeqHead) (flags : Bool × Bool) (a : Access Read) → access_bytes s flags a ≡ bytes_at s flags a.step.idr a.before (slice_nals a.step a.slices) a.behind
unfolding access_bytes access_nals bytes_at
access_is s flags a = refl

same_bytes : (s : SeqHead) (flags : Bool × Bool) (x y : Bool) (a b slices c e : List Nal) → x ≡ y → a ≡ b → c ≡ e → bytes_at s flags x a slices c ≡ bytes_at s flags y b slices e
same_bytes s flags x y a b slices c e e1 e2 e3 = rw (e1, e2, e3) refl

idr_bytes : (s : SeqHead) (flags : Bool × Bool) (d : Delays) (slices behind : List Nal) → bytes_at s flags true (supplement_unit d ∷ []) slices behind ≡ set_bytes s flags true ++ (message_bytes false d ++ (later_bytes slices ++ later_bytes behind))
unfolding bytes_at
idr_bytes s flags d slices behind =
    let first = written (true, sequence_nal s) in
    let second = written (true, picture_nal flags) in
    let more = message_bytes false d ++ (later_bytes slices ++ later_bytes behind) in
    ap (λ (xs : List ℕ). first ++ (second ++ (message_bytes false d ++ xs))) (later_then slices behind)
    ∙ sym (append_assoc first second more)
    ∙ ap (λ (xs : List ℕ). xs ++ more) (sets_are s flags)

other_bytes : (s : SeqHead) (flags : Bool × Bool) (d : Delays) (slices behind : List Nal) → bytes_at s flags false (supplement_unit d ∷ []) slices behind ≡ message_bytes true d ++ (later_bytes slices ++ later_bytes behind)
unfolding bytes_at
other_bytes s flags d slices behind = ap (λ (xs : List ℕ). message_bytes true d ++ xs) (later_then slices behind)

pub idr_is : (s : SeqHead) (flags : Bool × Bool) (d : Delays) (n : ℕ) (a : Access Read) → a.step.idr ≡ true → a.before ≡ supplement_unit d ∷ [] → a.behind ≡ filler_units n
    → access_bytes s flags a ≡ set_bytes s flags true ++ (message_bytes false d ++ (later_bytes (slice_nals a.step a.slices) ++ filler_bytes n))
idr_is s flags d n a idr before behind =
    access_is s flags a
    ∙ same_bytes s flags a.step.idr true a.before (supplement_unit d ∷ []) (slice_nals a.step a.slices) a.behind (filler_units n) idr before behind
    ∙ idr_bytes s flags d (slice_nals a.step a.slices) (filler_units n)

pub other_is : (s : SeqHead) (flags : Bool × Bool) (d : Delays) (n : ℕ) (a : Access Read) → a.step.idr ≡ false → a.before ≡ supplement_unit d ∷ [] → a.behind ≡ filler_units n
    → access_bytes s flags a ≡ message_bytes true d ++ (later_bytes (slice_nals a.step a.slices) ++ filler_bytes n)
other_is s flags d n a idr before behind =
    access_is s flags a
    ∙ same_bytes s flags a.step.idr false a.before (supplement_unit d ∷ []) (slice_nals a.step a.slices) a.behind (filler_units n) idr before behind
    ∙ other_bytes s flags d (slice_nals a.step a.slices) (filler_units n)
