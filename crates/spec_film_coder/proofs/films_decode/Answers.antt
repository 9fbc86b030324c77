use Rattle.spec_film_coder.proofs.Films.{shows, reads}
use Rattle.spec_film_coder.proofs.films_decode.Goals as goal

pub returns : goal.returns
returns c = record { pictures = shows; slices = reads }
