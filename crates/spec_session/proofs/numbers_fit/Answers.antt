use Rattle.spec_session.proofs.Cutting.{numbers_fit}
use Rattle.spec_session.proofs.numbers_fit.Goals as goal

pub returns : goal.returns
returns c = numbers_fit
