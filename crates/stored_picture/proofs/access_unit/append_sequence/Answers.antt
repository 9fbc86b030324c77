use Rattle.std.proofs.Common.{◌≤◌, ◌∙◌, ap, sym, subst, length, List, ℕ, true, arith}
use Rattle.spec_bits.specs.Bits.{bits_of_bytes}
use Rattle.spec_headers.specs.HeadFields.{sequence_fields}
use Rattle.spec_bits.specs.Units.{unit_bytes}
use Rattle.spec_stream.specs.Stored.{stored_sequence}
use Rattle.bit_strings.specs.BitText.{BitText}
use Rattle.stored_picture.proofs.BlockText.{with_more}
use Rattle.stored_picture.proofs.Lengths.{length-sequence_fields, length-sequence_payload}
use Rattle.stored_picture.proofs.Payloads.{head_made, payload_is, payload_ends, sequence_is}
use Rattle.stored_picture.proofs.access_unit.append_sequence.Goals as goal

pub bytes-requires : goal.bytes-requires
bytes-requires c =
    let room : 4096 ≤ c.clear.new.self.room = let r = c.requires.payload in let s = ap (λ (b : BitText). b.room) c.clear.ensures in omega arith in
    let made = head_made (sequence_fields (stored_sequence c.args.head.now)) c.clear.new.self c.write_sps.new.out c.trail.new.self c.write_sps.result c.trail.result (ap (λ (b : BitText). b.text) c.clear.ensures) (length-sequence_fields c.args.head.now) room c.write_sps.ensures c.trail.ensures in
    made.whole

pub append_unit-requires-clause-ends : goal.append_unit-requires-clause-ends
append_unit-requires-clause-ends c =
    let room : 4096 ≤ c.clear.new.self.room = let r = c.requires.payload in let s = ap (λ (b : BitText). b.room) c.clear.ensures in omega arith in
    let made = head_made (sequence_fields (stored_sequence c.args.head.now)) c.clear.new.self c.write_sps.new.out c.trail.new.self c.write_sps.result c.trail.result (ap (λ (b : BitText). b.text) c.clear.ensures) (length-sequence_fields c.args.head.now) room c.write_sps.ensures c.trail.ensures in
    payload_ends (sequence_fields (stored_sequence c.args.head.now)) c.bytes.result.now (payload_is (sequence_fields (stored_sequence c.args.head.now)) c.clear.new.self c.trail.new.self c.bytes.result.now made c.bytes.ensures.bytes)

pub append_unit-requires-clause-room : goal.append_unit-requires-clause-room
append_unit-requires-clause-room c =
    let room : 4096 ≤ c.clear.new.self.room = let r = c.requires.payload in let s = ap (λ (b : BitText). b.room) c.clear.ensures in omega arith in
    let made = head_made (sequence_fields (stored_sequence c.args.head.now)) c.clear.new.self c.write_sps.new.out c.trail.new.self c.write_sps.result c.trail.result (ap (λ (b : BitText). b.text) c.clear.ensures) (length-sequence_fields c.args.head.now) room c.write_sps.ensures c.trail.ensures in
    let is = payload_is (sequence_fields (stored_sequence c.args.head.now)) c.clear.new.self c.trail.new.self c.bytes.result.now made c.bytes.ensures.bytes ∙ sequence_is c.args.head.now in
    let l = subst (λ (xs : List ℕ). length xs ≤ 400) (sym is) (length-sequence_payload c.args.head.now) in
    let q = c.requires.room in
    omega (arith, l)

pub returns-clause-text : goal.returns-clause-text
returns-clause-text c =
    let room : 4096 ≤ c.clear.new.self.room = let r = c.requires.payload in let s = ap (λ (b : BitText). b.room) c.clear.ensures in omega arith in
    let made = head_made (sequence_fields (stored_sequence c.args.head.now)) c.clear.new.self c.write_sps.new.out c.trail.new.self c.write_sps.result c.trail.result (ap (λ (b : BitText). b.text) c.clear.ensures) (length-sequence_fields c.args.head.now) room c.write_sps.ensures c.trail.ensures in
    let is = payload_is (sequence_fields (stored_sequence c.args.head.now)) c.clear.new.self c.trail.new.self c.bytes.result.now made c.bytes.ensures.bytes ∙ sequence_is c.args.head.now in
    let l = subst (λ (xs : List ℕ). length xs ≤ 400) (sym is) (length-sequence_payload c.args.head.now) in
    c.append_unit.ensures.text ∙ ap (λ (xs : List ℕ). with_more c.args.units.now (bits_of_bytes (unit_bytes true 3 7 xs))) is

pub returns-clause-length : goal.returns-clause-length
returns-clause-length c =
    let room : 4096 ≤ c.clear.new.self.room = let r = c.requires.payload in let s = ap (λ (b : BitText). b.room) c.clear.ensures in omega arith in
    let made = head_made (sequence_fields (stored_sequence c.args.head.now)) c.clear.new.self c.write_sps.new.out c.trail.new.self c.write_sps.result c.trail.result (ap (λ (b : BitText). b.text) c.clear.ensures) (length-sequence_fields c.args.head.now) room c.write_sps.ensures c.trail.ensures in
    let is = payload_is (sequence_fields (stored_sequence c.args.head.now)) c.clear.new.self c.trail.new.self c.bytes.result.now made c.bytes.ensures.bytes ∙ sequence_is c.args.head.now in
    let l = subst (λ (xs : List ℕ). length xs ≤ 400) (sym is) (length-sequence_payload c.args.head.now) in
    let m = c.append_unit.ensures.length in
    omega (arith, l, m)
