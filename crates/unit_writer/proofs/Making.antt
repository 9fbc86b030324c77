-- Payloads that are made in an empty buffer, and their units.
use Rattle.std.proofs.Common.{ℕ, ◌+◌, ◌%◌, ◌≡◌, ◌≤◌, List, [], ◌++◌, length, Bool, true, Result, Ok, Err, Option, Some, None, ap, sym, ◌∙◌, subst, arith, length-append}
use Rattle.spec_bits.specs.declared.fields.Field.{Field}
use Rattle.spec_bits.specs.Bits.{bits_of_bytes, bytes_of_bits}
use Rattle.spec_bits.specs.Golomb.{trail_bits}
use Rattle.spec_bits.specs.Fields.{fields_bits}
use Rattle.spec_bits.specs.Units.{EndsWell, unit_bytes, written}
use Rattle.spec_bits.proofs.Codes.{length-trail_bits, trail_whole}
use Rattle.spec_bits.proofs.FieldLists.{fields_bits-none, fields_bits-append}
use Rattle.spec_headers.specs.declared.heads.SeqHead.{SeqHead}
use Rattle.spec_headers.specs.HeadFields.{sequence_fields, sequence_payload, picture_fields, picture_payload}
use Rattle.spec_headers.specs.MessageFields.{buffering_fields, period_fields, timing_fields, message_fields}
use Rattle.spec_stream.proofs.Ends.{ends_in_trail}
use Rattle.spec_pictures.specs.Accesses.{sequence_nal, picture_nal}
use Rattle.bit_strings.specs.BitText.{BitText, Appends}
use Rattle.unit_writer.specs.Parts.{ended}

-- another text
abbrev pub with_text : BitText → List Bool → BitText
with_text b text = record b { text = text }

-- bits behind the text
abbrev pub with_more : BitText → List Bool → BitText
with_more b more = record b { text = b.text ++ more }

appended : {E : Type 0} (old new : BitText) (more : List Bool) (r : Result (Unit {0}) E) → Appends old new more r → length old.text + length more ≤ old.room → new ≡ with_more old more
appended old new more (Ok u) a h = a.1
appended old new more (Err e) a h = let full = a.0 in absurd (omega arith)

-- the first bits of an empty buffer
appended_first : {E : Type 0} (old new : BitText) (more : List Bool) (r : Result (Unit {0}) E) → old.text ≡ [] → Appends old new more r → length more ≤ old.room → new ≡ with_text old more
appended_first old new more r empty a h =
    let none : length old.text ≡ 0 = ap length empty in
    appended old new more r a (omega arith) ∙ ap (λ (xs : List Bool). with_text old (xs ++ more)) empty

-- trailing bits behind a text
trailed : {E : Type 0} (old b c : BitText) (bits : List Bool) (q : Result (Unit {0}) E) → b ≡ with_text old bits → length bits ≤ 6858 → 8192 ≤ old.room → Appends b c (trail_bits (length b.text)) q
    → c ≡ with_text old (bits ++ trail_bits (length bits))
trailed old b c bits q hb short room second =
    let len : length b.text ≡ length bits = ap (λ (x : BitText). length x.text) hb in
    let same : b.room ≡ old.room = ap (λ (x : BitText). x.room) hb in
    appended b c (trail_bits (length b.text)) q second (omega (arith, length-trail_bits (length b.text)))
    ∙ ap (λ (x : BitText). with_more x (trail_bits (length x.text))) hb

-- fields and trailing bits in an empty buffer
pub payload_made : {E F : Type 0} (fields : List Field) (old b c : BitText) (r : Result (Unit {0}) E) (q : Result (Unit {0}) F) → length (fields_bits fields) ≤ 6858 → old.text ≡ [] → 8192 ≤ old.room
    → Appends old b (fields_bits fields) r → Appends b c (trail_bits (length b.text)) q → c ≡ with_text old (ended fields)
payload_made fields old b c r q short empty room first second =
    trailed old b c (fields_bits fields) q (appended_first old b (fields_bits fields) r empty first (omega arith)) short room second

-- the message of a buffering period
pub no_period : (initial : Option ℕ) (old : BitText) → initial ≡ None → old.text ≡ [] → old ≡ with_text old (fields_bits (period_fields initial))
no_period initial old none empty = ap (λ (xs : List Bool). with_text old xs) (empty ∙ sym fields_bits-none ∙ ap (λ (o : Option ℕ). fields_bits (period_fields o)) (sym none))

pub period_made : {E : Type 0} (initial : Option ℕ) (delay : ℕ) (old b : BitText) (r : Result (Unit {0}) E) → initial ≡ Some delay → length (fields_bits (buffering_fields delay)) ≤ 6858 → old.text ≡ [] → 8192 ≤ old.room
    → Appends old b (fields_bits (buffering_fields delay)) r → b ≡ with_text old (fields_bits (period_fields initial))
period_made initial delay old b r some short empty room first =
    appended_first old b (fields_bits (buffering_fields delay)) r empty first (omega arith) ∙ ap (λ (o : Option ℕ). with_text old (fields_bits (period_fields o))) (sym some)

message_bits : (initial : Option ℕ) (removal output : ℕ) → fields_bits (message_fields initial removal output) ≡ fields_bits (period_fields initial) ++ fields_bits (timing_fields removal output)
unfolding message_fields
message_bits initial removal output = fields_bits-append (period_fields initial) (timing_fields removal output)

-- both messages and the trailing bits
pub messages_made : {E F : Type 0} (initial : Option ℕ) (removal output : ℕ) (old a b c : BitText) (r : Result (Unit {0}) E) (q : Result (Unit {0}) F) → length (fields_bits (message_fields initial removal output)) ≤ 6858 → 8192 ≤ old.room
    → a ≡ with_text old (fields_bits (period_fields initial)) → Appends a b (fields_bits (timing_fields removal output)) r → Appends b c (trail_bits (length b.text)) q → c ≡ with_text old (ended (message_fields initial removal output))
messages_made initial removal output old a b c r q short room ha first second =
    let period = fields_bits (period_fields initial) in
    let timing = fields_bits (timing_fields removal output) in
    let both = message_bits initial removal output in
    let size : length (fields_bits (message_fields initial removal output)) ≡ length (period ++ timing) = ap length both in
    let joined = length-append period timing in
    let len : length a.text ≡ length period = ap (λ (x : BitText). length x.text) ha in
    let same : a.room ≡ old.room = ap (λ (x : BitText). x.room) ha in
    let hb : b ≡ with_text old (fields_bits (message_fields initial removal output)) =
    appended a b timing r first (omega arith) ∙ ap (λ (x : BitText). with_more x timing) ha ∙ ap (λ (xs : List Bool). with_text old xs) (sym both) in
    trailed old b c (fields_bits (message_fields initial removal output)) q hb short room second

-- ---- what a unit asks for

pub text_whole : (fields : List Field) (old now : BitText) → now ≡ with_text old (ended fields) → length now.text % 8 ≡ 0
text_whole fields old now is =
    let bits = fields_bits fields in
    ap (λ (x : BitText). length x.text % 8) is ∙ ap (λ n. n % 8) (length-append bits (trail_bits (length bits))) ∙ trail_whole (length bits)

pub text_ends : (fields : List Field) (old now : BitText) → now ≡ with_text old (ended fields) → EndsWell (bytes_of_bits now.text)
text_ends fields old now is = subst (λ (xs : List Bool). EndsWell (bytes_of_bits xs)) (sym (ap (λ (x : BitText). x.text) is)) (ends_in_trail (fields_bits fields))

-- the payload is given back as it was lent
pub given_back : (old now new : BitText) (text : List Bool) → old.text ≡ [] → now ≡ with_text old text → new ≡ with_text now [] → new ≡ old
given_back old now new text empty is cleared =
    cleared ∙ ap (λ (x : BitText). with_text x []) is ∙ ap (λ (xs : List Bool). with_text old xs) (sym empty)

-- ---- units

pub unit_of : {E : Type 0} (long : Bool) (ref_idc kind : ℕ) (fields : List Field) (old now a b : BitText) (r : Result (Unit {0}) E) → now ≡ with_text old (ended fields)
    → Appends a b (bits_of_bytes (unit_bytes long ref_idc kind (bytes_of_bits now.text))) r → Appends a b (bits_of_bytes (unit_bytes long ref_idc kind (bytes_of_bits (ended fields)))) r
unit_of long ref_idc kind fields old now a b r is wrote =
    subst (λ (xs : List Bool). Appends a b (bits_of_bytes (unit_bytes long ref_idc kind (bytes_of_bits xs))) r) (ap (λ (x : BitText). x.text) is) wrote

pub sequence_unit : {E : Type 0} (h : SeqHead) (a b : BitText) (r : Result (Unit {0}) E) → Appends a b (bits_of_bytes (unit_bytes true 3 7 (bytes_of_bits (ended (sequence_fields h))))) r → Appends a b (bits_of_bytes (written (true, sequence_nal h))) r
unfolding sequence_payload
sequence_unit h a b r wrote = wrote

pub picture_unit : {E : Type 0} (t8x8 : Bool) (a b : BitText) (r : Result (Unit {0}) E) → Appends a b (bits_of_bytes (unit_bytes true 3 8 (bytes_of_bits (ended (picture_fields true t8x8))))) r → Appends a b (bits_of_bytes (written (true, picture_nal (true, t8x8)))) r
unfolding picture_payload
picture_unit t8x8 a b r wrote = wrote
