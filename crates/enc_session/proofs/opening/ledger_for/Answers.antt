use Rattle.enc_session.proofs.OpenLaws.{rate}
use Rattle.enc_session.proofs.opening.ledger_for.Goals as goal

pub new-requires-clause-settings : goal.new-requires-clause-settings
new-requires-clause-settings c = rate c.args.settings.now c.args.head.now c.args.level c.requires.head c.requires.complete
