use Rattle.spec_session.proofs.WholeFilms.{keeps_buffer}
use Rattle.spec_session.proofs.buffers_hold.Goals as goal

pub returns : goal.returns
returns c = keeps_buffer
