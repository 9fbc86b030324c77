use Rattle.std.proofs.Common.{true}
use Rattle.spec_headers.specs.HeadFields.{picture_fields}
use Rattle.unit_writer.proofs.Making.{text_whole, text_ends, unit_of, picture_unit}
use Rattle.unit_writer.proofs.payloads.put_picture_set.Goals as goal

pub put_unit-requires-clause-bytes : goal.put_unit-requires-clause-bytes
put_unit-requires-clause-bytes c = text_whole (picture_fields true c.args.t8x8) c.args.payload.now c.make_picture_set.new.payload c.make_picture_set.ensures

pub put_unit-requires-clause-ends : goal.put_unit-requires-clause-ends
put_unit-requires-clause-ends c = text_ends (picture_fields true c.args.t8x8) c.args.payload.now c.make_picture_set.new.payload c.make_picture_set.ensures

pub returns-clause-unit : goal.returns-clause-unit
returns-clause-unit c =
    picture_unit c.args.t8x8 c.args.out.now c.put_unit.new.out c.put_unit.result
    (unit_of true 3 8 (picture_fields true c.args.t8x8) c.args.payload.now c.make_picture_set.new.payload c.args.out.now c.put_unit.new.out c.put_unit.result c.make_picture_set.ensures c.put_unit.ensures.unit)
