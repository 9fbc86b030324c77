use Rattle.spec_session.proofs.Settling.{same_setting}
use Rattle.spec_session.proofs.WholeFilms.{same_ending}
use Rattle.spec_session.proofs.workers_settle_nothing.Goals as goal

pub returns : goal.returns
returns c = record { setting = same_setting; ending = same_ending }
