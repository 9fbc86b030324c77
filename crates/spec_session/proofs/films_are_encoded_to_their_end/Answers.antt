use Rattle.spec_session.proofs.Refusing.{films_end}
use Rattle.spec_session.proofs.films_are_encoded_to_their_end.Goals as goal

pub returns : goal.returns
returns c = films_end
