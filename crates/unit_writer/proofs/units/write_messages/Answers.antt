use Rattle.spec_headers.specs.MessageFields.{message_fields}
use Rattle.spec_bits.specs.Bits.{bytes_of_bits}
use Rattle.spec_bits.specs.Units.{unit_bytes}
use Rattle.unit_writer.proofs.Making.{text_whole, text_ends, unit_of}
use Rattle.unit_writer.proofs.Joining.{whole_behind}
use Rattle.unit_writer.proofs.units.write_messages.Goals as goal

pub put_unit-requires-clause-bytes : goal.put_unit-requires-clause-bytes
put_unit-requires-clause-bytes c = text_whole (message_fields c.args.initial c.args.removal c.args.output) c.args.payload.now c.make_messages.new.payload c.make_messages.ensures

pub put_unit-requires-clause-ends : goal.put_unit-requires-clause-ends
put_unit-requires-clause-ends c = text_ends (message_fields c.args.initial c.args.removal c.args.output) c.args.payload.now c.make_messages.new.payload c.make_messages.ensures

pub returns-clause-messages : goal.returns-clause-messages
returns-clause-messages c =
    unit_of c.args.long 0 6 (message_fields c.args.initial c.args.removal c.args.output) c.args.payload.now c.make_messages.new.payload c.args.out.now c.put_unit.new.out c.put_unit.result c.make_messages.ensures c.put_unit.ensures.unit

pub returns-clause-whole : goal.returns-clause-whole
returns-clause-whole c = whole_behind c.put_unit.result c.args.out.now c.put_unit.new.out (unit_bytes c.args.long 0 6 (bytes_of_bits c.make_messages.new.payload.text)) c.requires.whole c.put_unit.ensures.unit
