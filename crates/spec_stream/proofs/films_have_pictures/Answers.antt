use Rattle.spec_stream.proofs.FilmPictures.{film_has}
use Rattle.spec_stream.proofs.films_have_pictures.Goals as goal

pub returns : goal.returns
returns c = λ bytes h small is. let has = film_has bytes h small is in (has.allowed, has.pictures)
