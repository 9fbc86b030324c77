use Rattle.std.proofs.Common.{true}
use Rattle.spec_headers.specs.HeadFields.{picture_fields}
use Rattle.unit_writer.proofs.Lengths.{length-picture_fields}
use Rattle.unit_writer.proofs.Making.{payload_made}
use Rattle.unit_writer.proofs.payloads.make_picture_set.Goals as goal

pub returns : goal.returns
returns c =
    payload_made (picture_fields true c.args.t8x8) c.args.payload.now c.write_pps.new.out c.trail.new.self c.write_pps.result c.trail.result (length-picture_fields c.args.t8x8) c.requires.empty c.requires.room
    c.write_pps.ensures c.trail.ensures
