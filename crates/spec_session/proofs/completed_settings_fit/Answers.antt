use Rattle.spec_session.proofs.Settling.{completes}
use Rattle.spec_session.proofs.completed_settings_fit.Goals as goal

pub returns : goal.returns
returns c = completes
