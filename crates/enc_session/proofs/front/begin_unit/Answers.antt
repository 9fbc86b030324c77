use Rattle.std.proofs.Common.{true, not, length, ap, arith}
use Rattle.bit_strings.specs.BitText.{BitText}
use Rattle.spec_bits.proofs.Digits.{length-bits_of_bytes}
use Rattle.spec_headers.specs.MessageReaders.{Delays}
use Rattle.unit_writer.specs.Parts.{set_bytes, message_bytes}
use Rattle.enc_session.proofs.Fronts.{more_units, sets_short, message_short, front_short}
use Rattle.enc_session.proofs.front.begin_unit.Goals as goal

pub write_messages-requires-clause-whole : goal.write_messages-requires-clause-whole
write_messages-requires-clause-whole c =
    let l = length-bits_of_bytes (set_bytes c.args.head.now (true, c.args.t8x8) c.args.idr) in
    let e = ap (λ (b : BitText). length b.text) c.begin_with_sets.ensures.unit in
    omega (arith, l, e)

pub returns-clause-unit : goal.returns-clause-unit
returns-clause-unit c =
    let u = set_bytes c.args.head.now (true, c.args.t8x8) c.args.idr in
    let v = message_bytes (not c.args.idr) (record { initial = c.args.delays.now.initial; removal = c.args.delays.now.removal; output = c.args.delays.now.output }) in
    let a = sets_short c.args.head.now c.args.t8x8 c.args.idr in
    let b = message_short (not c.args.idr) (record { initial = c.args.delays.now.initial; removal = c.args.delays.now.removal; output = c.args.delays.now.output }) in
    more_units c.args.unit.now c.begin_with_sets.new.unit c.write_messages.new.out u v c.write_messages.result c.begin_with_sets.ensures.unit (omega (arith, a, b, c.requires.room)) c.write_messages.ensures.messages

pub returns-clause-short : goal.returns-clause-short
returns-clause-short c =
    let u = set_bytes c.args.head.now (true, c.args.t8x8) c.args.idr in
    let d : Delays = record { initial = c.args.delays.now.initial; removal = c.args.delays.now.removal; output = c.args.delays.now.output } in
    let s = front_short c.args.head.now c.args.t8x8 c.args.idr d in
    let a = sets_short c.args.head.now c.args.t8x8 c.args.idr in
    let b = message_short (not c.args.idr) d in
    let e = ap (λ (b : BitText). length b.text) (more_units c.args.unit.now c.begin_with_sets.new.unit c.write_messages.new.out u (message_bytes (not c.args.idr) d) c.write_messages.result c.begin_with_sets.ensures.unit (omega (arith, a, b, c.requires.room)) c.write_messages.ensures.messages) in
    omega (arith, s, e)
