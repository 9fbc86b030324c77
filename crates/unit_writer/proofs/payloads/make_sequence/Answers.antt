use Rattle.spec_headers.specs.HeadFields.{sequence_fields}
use Rattle.unit_writer.proofs.Lengths.{length-sequence_fields}
use Rattle.unit_writer.proofs.Making.{payload_made}
use Rattle.unit_writer.proofs.payloads.make_sequence.Goals as goal

pub returns : goal.returns
returns c =
    payload_made (sequence_fields c.args.head.now) c.args.payload.now c.write_sps.new.out c.trail.new.self c.write_sps.result c.trail.result (length-sequence_fields c.args.head.now) c.requires.empty c.requires.room
    c.write_sps.ensures c.trail.ensures
