use Rattle.std.proofs.Common.{arith}
use Rattle.buffer_control.specs.Seen.{rate_of, spent_of}
use Rattle.enc_session.proofs.Begun.{filled}
use Rattle.enc_session.proofs.units.fill_unit.Goals as goal

pub returns-clause-unit : goal.returns-clause-unit
returns-clause-unit c =
    filled (rate_of c.args.ledger.now) (spent_of c.args.ledger.now) c.len-bits.result c.filler_bytes-filler.result c.args.unit.now c.write_filler.new.out c.write_filler.result
    c.args.ledger.now.settings.some c.filler_bytes-filler.ensures.value (omega (arith, c.filler_bytes-filler.ensures.fits, c.len-bits.ensures.len, c.requires.room)) c.write_filler.ensures.filler
