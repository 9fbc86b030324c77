use Rattle.spec_film_coder.proofs.Planned.{film_decodes, film_is_read, film_is_whole, film_keeps_the_buffer}
use Rattle.spec_film_coder.proofs.planned_films_decode.Goals as goal

pub returns : goal.returns
returns c = record { pictures = film_decodes; slices = film_is_read; each = film_is_whole; buffer = film_keeps_the_buffer }
