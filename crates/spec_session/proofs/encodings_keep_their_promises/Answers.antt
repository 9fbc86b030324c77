use Rattle.spec_session.proofs.WholeFilms.{keeps_promises}
use Rattle.spec_session.proofs.encodings_keep_their_promises.Goals as goal

pub returns : goal.returns
returns c = keeps_promises
