use Rattle.spec_session.proofs.WholeFilms.{encodes}
use Rattle.spec_session.proofs.films_keep_their_promises.Goals as goal

pub returns : goal.returns
returns c = encodes
