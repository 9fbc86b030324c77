-- How long the units before the slices are at most.
use Rattle.std.proofs.Common.{ℕ, ◌+◌, ◌*◌, ◌%◌, ◌≡◌, ◌≤◌, Bool, true, false, not, cond, List, [], ◌∷◌, ◌++◌, length, Result, Ok, Err, ap, sym, ◌∙◌, arith, length-append}
use Rattle.std.specs.Prelude.{nat_le, ◌&&◌, ◌==◌}
use Rattle.std.proofs.lemmas.Bool.Decides.{nat_tests}
use Rattle.spec_bits.specs.declared.fields.Field.{Field}
use Rattle.spec_bits.specs.Bits.{bits_of_bytes}
use Rattle.spec_bits.specs.Fields.{fields_bits}
use Rattle.spec_bits.specs.Golomb.{trail_bits}
use Rattle.spec_bits.specs.Units.{escape, zeros_after, start_code, header_byte, unit_bytes, written}
use Rattle.spec_bits.proofs.Digits.{bits_of_bytes-append, bits_of_bytes-none, length-bits_of_bytes, length-bytes_of_bits}
use Rattle.spec_bits.proofs.Codes.{length-trail_bits, trail_whole}
use Rattle.spec_headers.specs.declared.heads.SeqHead.{SeqHead}
use Rattle.spec_headers.specs.HeadFields.{payload_of, sequence_fields, sequence_payload, picture_fields, picture_payload}
use Rattle.spec_headers.specs.MessageFields.{message_fields}
use Rattle.spec_headers.specs.MessageReaders.{Delays}
use Rattle.spec_pictures.specs.Accesses.{sequence_nal, picture_nal}
use Rattle.bit_strings.specs.BitText.{BitText, Appends}
use Rattle.unit_writer.specs.Parts.{set_bytes, message_bytes}
use Rattle.unit_writer.proofs.Joining.{sets_are}
use Rattle.unit_writer.proofs.Lengths.{length-sequence_fields, length-picture_fields, length-message_fields}
use Rattle.enc_session.specs.Fronts.{front_bytes}

length-escape : (before : ℕ) (bytes : List ℕ) → length (escape before bytes) ≤ 2 * length bytes
unfolding escape
length-escape before [] = omega arith
length-escape before (b ∷ bytes) = by (nat_le 2 before && nat_le b 3) (length-escape (zeros_after 0 b) bytes) (length-escape (zeros_after before b) bytes)
  where
    by : (t : Bool) → length (escape (zeros_after 0 b) bytes) ≤ 2 * length bytes → length (escape (zeros_after before b) bytes) ≤ 2 * length bytes → length (cond t (3 ∷ b ∷ escape (zeros_after 0 b) bytes) (b ∷ escape (zeros_after before b) bytes)) ≤ 2 * length (b ∷ bytes)
    by true e f = omega (arith, e)
    by false e f = omega (arith, f)

length-start : (long : Bool) → length (start_code long) ≤ 4
length-start true = omega arith
length-start false = omega arith

length-unit : (long : Bool) (ref_idc kind : ℕ) (payload : List ℕ) → length (unit_bytes long ref_idc kind payload) ≤ 5 + 2 * length payload
unfolding unit_bytes
length-unit long ref_idc kind payload =
    let a = length-append (start_code long) (header_byte ref_idc kind ∷ escape 0 payload) in
    let b = length-start long in
    let c = length-escape 0 payload in
    omega (arith, a, b, c)

length-payload : (fields : List Field) → length (fields_bits fields) ≤ 6858 → length (payload_of fields) ≤ 859
length-payload fields h =
    let bits : List Bool = fields_bits fields in
    let t = length-trail_bits (length bits) in
    let a = length-append bits (trail_bits (length bits)) in
    let w : length (bits ++ trail_bits (length bits)) % 8 ≡ 0 = ap (λ (n : ℕ). n % 8) a ∙ trail_whole (length bits) in
    let b = length-bytes_of_bits (bits ++ trail_bits (length bits)) w in
    omega (arith, t, a, b, h)

sequence_short : (s : SeqHead) → length (written (true, sequence_nal s)) ≤ 1723
unfolding sequence_payload
sequence_short s = let u = length-unit true 3 7 (payload_of (sequence_fields s)) in let p = length-payload (sequence_fields s) (length-sequence_fields s) in omega (arith, u, p)

picture_short : (t8x8 : Bool) → length (written (true, picture_nal (true, t8x8))) ≤ 1723
unfolding picture_payload
picture_short t8x8 = let u = length-unit true 3 8 (payload_of (picture_fields true t8x8)) in let p = length-payload (picture_fields true t8x8) (length-picture_fields t8x8) in omega (arith, u, p)

pub message_short : (long : Bool) (d : Delays) → length (message_bytes long d) ≤ 1723
message_short long d =
    let u = length-unit long 0 6 (payload_of (message_fields d.initial d.removal d.output)) in
    let p = length-payload (message_fields d.initial d.removal d.output) (length-message_fields d.initial d.removal d.output) in
    omega (arith, u, p)

pub sets_short : (s : SeqHead) (t8x8 idr : Bool) → length (set_bytes s (true, t8x8) idr) ≤ 3446
sets_short s t8x8 false = omega arith
sets_short s t8x8 true =
    let e : length (written (true, sequence_nal s) ++ written (true, picture_nal (true, t8x8))) ≡ length (set_bytes s (true, t8x8) true) = ap (λ (xs : List ℕ). length xs) (sets_are s (true, t8x8)) in
    let a = length-append (written (true, sequence_nal s)) (written (true, picture_nal (true, t8x8))) in
    let b = sequence_short s in
    let c = picture_short t8x8 in
    omega (arith, e, a, b, c)

-- ---- what is written

-- into an empty buffer
pub first_units : {E : Type 0} (old new : BitText) (u : List ℕ) (r : Result (Unit {0}) E) → old.text ≡ [] → 8 * length u ≤ old.room → Appends old new (bits_of_bytes u) r → new ≡ record old { text = bits_of_bytes u }
first_units old new u (Ok done) empty fits h = h.1 ∙ ap (λ (xs : List Bool). (let b : BitText = record old { text = xs ++ bits_of_bytes u } in b)) empty
first_units old new u (Err e) empty fits h =
    let none : length old.text ≡ 0 = ap (λ (xs : List Bool). length xs) empty in
    let l = length-bits_of_bytes u in
    absurd (omega (arith, none, l, fits, h.0))

pub no_units : (old : BitText) → old.text ≡ [] → old ≡ record old { text = bits_of_bytes [] }
no_units old empty = ap (λ (xs : List Bool). (let b : BitText = record old { text = xs } in b)) (empty ∙ sym bits_of_bytes-none)

-- behind others
pub more_units : {E : Type 0} (old mid new : BitText) (u v : List ℕ) (r : Result (Unit {0}) E) → mid ≡ record old { text = bits_of_bytes u } → 8 * (length u + length v) ≤ old.room → Appends mid new (bits_of_bytes v) r → new ≡ record old { text = bits_of_bytes (u ++ v) }
more_units old mid new u v (Ok done) e fits h =
    h.1 ∙ ap (λ (b : BitText). (let x : BitText = record b { text = b.text ++ bits_of_bytes v } in x)) e
    ∙ ap (λ (xs : List Bool). (let x : BitText = record old { text = xs } in x)) (sym (bits_of_bytes-append u v))
more_units old mid new u v (Err er) e fits h =
    let room : mid.room ≡ old.room = ap (λ (b : BitText). b.room) e in
    let text : length mid.text ≡ length (bits_of_bytes u) = ap (λ (b : BitText). length b.text) e in
    let l = length-bits_of_bytes u in
    let m = length-bits_of_bytes v in
    absurd (omega (arith, room, text, l, m, fits, h.0))

pub front_short : (s : SeqHead) (t8x8 idr : Bool) (d : Delays) → length (bits_of_bytes (front_bytes s (true, t8x8) idr d)) ≤ 65536
front_short s t8x8 idr d =
    let l = length-bits_of_bytes (front_bytes s (true, t8x8) idr d) in
    let a = length-append (set_bytes s (true, t8x8) idr) (message_bytes (not idr) d) in
    let b = sets_short s t8x8 idr in
    let c = message_short (not idr) d in
    omega (arith, l, a, b, c)

-- there are some
pub front_some : (s : SeqHead) (t8x8 idr : Bool) (d : Delays) → (length (bits_of_bytes (front_bytes s (true, t8x8) idr d)) == 0) ≡ false
unfolding unit_bytes
front_some s t8x8 idr d =
    let l = length-bits_of_bytes (front_bytes s (true, t8x8) idr d) in
    let a = length-append (set_bytes s (true, t8x8) idr) (message_bytes (not idr) d) in
    let m : 1 ≤ length (message_bytes (not idr) d) = some_start (not idr) _ in
    not_zero (length (bits_of_bytes (front_bytes s (true, t8x8) idr d))) (omega (arith, l, a, m))
  where
    some_start : (long : Bool) (rest : List ℕ) → 1 ≤ length (start_code long ++ rest)
    some_start true rest = omega arith
    some_start false rest = omega arith

    not_zero : (n : ℕ) → 1 ≤ n → (n == 0) ≡ false
    not_zero n h = grind (arith, nat_tests)
