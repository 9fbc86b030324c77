use Rattle.spec_session.proofs.Cutting.{is_cut}
use Rattle.spec_session.proofs.faulty_films_are_cut.Goals as goal

pub returns : goal.returns
returns c = is_cut
