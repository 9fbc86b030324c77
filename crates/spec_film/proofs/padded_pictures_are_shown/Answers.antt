use Rattle.spec_film.proofs.CroppingLaws.{shown_padded, bytes_back}
use Rattle.spec_film.proofs.padded_pictures_are_shown.Goals as goal

pub returns-clause-planes : goal.returns-clause-planes
returns-clause-planes c = shown_padded

pub returns-clause-bytes : goal.returns-clause-bytes
returns-clause-bytes c = bytes_back
