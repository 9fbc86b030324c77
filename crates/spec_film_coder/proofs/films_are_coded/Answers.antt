use Rattle.spec_film_coder.proofs.Laws.{coder_laws}
use Rattle.spec_film_coder.proofs.films_are_coded.Goals as goal

pub returns : goal.returns
returns c = coder_laws
