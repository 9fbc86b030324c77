use Rattle.enc_session.proofs.OpenLaws.{begins}
use Rattle.enc_session.proofs.opening.first_engine.Goals as goal

pub returns : goal.returns
returns c =
    begins c.args.settings.now c.args.head.now c.args.level c.in_ok-coder.coder c.in_ok-store.store c.ledger_for.result c.in_ok-unit.unit c.in_ok-payload.payload
    c.requires.range c.requires.early c.requires.head c.requires.complete c.in_ok-coder.ensures c.in_ok-store.ensures.nothing c.in_ok-store.ensures.size
    c.ledger_for.ensures.rate c.ledger_for.ensures.nothing c.in_ok-unit.ensures c.in_ok-payload.ensures
