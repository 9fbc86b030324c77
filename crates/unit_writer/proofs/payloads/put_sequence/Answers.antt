use Rattle.std.proofs.Common.{true}
use Rattle.spec_headers.specs.HeadFields.{sequence_fields}
use Rattle.unit_writer.proofs.Making.{text_whole, text_ends, unit_of, sequence_unit}
use Rattle.unit_writer.proofs.payloads.put_sequence.Goals as goal

pub put_unit-requires-clause-bytes : goal.put_unit-requires-clause-bytes
put_unit-requires-clause-bytes c = text_whole (sequence_fields c.args.head.now) c.args.payload.now c.make_sequence.new.payload c.make_sequence.ensures

pub put_unit-requires-clause-ends : goal.put_unit-requires-clause-ends
put_unit-requires-clause-ends c = text_ends (sequence_fields c.args.head.now) c.args.payload.now c.make_sequence.new.payload c.make_sequence.ensures

pub returns-clause-unit : goal.returns-clause-unit
returns-clause-unit c =
    sequence_unit c.args.head.now c.args.out.now c.put_unit.new.out c.put_unit.result
    (unit_of true 3 7 (sequence_fields c.args.head.now) c.args.payload.now c.make_sequence.new.payload c.args.out.now c.put_unit.new.out c.put_unit.result c.make_sequence.ensures c.put_unit.ensures.unit)
