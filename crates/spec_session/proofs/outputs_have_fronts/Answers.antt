use Rattle.spec_session.proofs.Growing.{fronts_of_film}
use Rattle.spec_session.proofs.outputs_have_fronts.Goals as goal

pub returns : goal.returns
returns c = fronts_of_film
