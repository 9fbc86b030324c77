use Rattle.unit_writer.proofs.Lengths.{length-message_fields}
use Rattle.unit_writer.proofs.Making.{messages_made}
use Rattle.unit_writer.proofs.payloads.make_messages.Goals as goal

pub returns : goal.returns
returns c =
    messages_made c.args.initial c.args.removal c.args.output c.args.payload.now c.make_buffering.new.payload c.write_timing.new.out c.trail.new.self c.write_timing.result c.trail.result
    (length-message_fields c.args.initial c.args.removal c.args.output) c.requires.room c.make_buffering.ensures c.write_timing.ensures c.trail.ensures
