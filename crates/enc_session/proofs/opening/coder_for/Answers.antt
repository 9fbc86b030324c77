use Rattle.enc_session.proofs.OpenLaws.{rows}
use Rattle.enc_session.proofs.opening.coder_for.Goals as goal

pub new-requires-clause-few : goal.new-requires-clause-few
new-requires-clause-few c = rows c.args.settings.now c.args.head.now c.args.level c.requires.complete
