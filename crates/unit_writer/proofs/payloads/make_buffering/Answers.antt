use Rattle.unit_writer.proofs.Lengths.{length-buffering_fields}
use Rattle.unit_writer.proofs.Making.{no_period, period_made}
use Rattle.unit_writer.proofs.payloads.make_buffering.Goals as goal

pub returns-in-None : goal.returns-in-None
returns-in-None c = no_period c.args.initial c.args.payload.now c.in-None.is c.requires.empty

pub returns-in-Some : goal.returns-in-Some
returns-in-Some c =
    period_made c.args.initial c.in-Some.delay c.args.payload.now c.write_buffering.new.out c.write_buffering.result c.in-Some.is (length-buffering_fields c.in-Some.delay) c.requires.empty c.requires.room c.write_buffering.ensures
