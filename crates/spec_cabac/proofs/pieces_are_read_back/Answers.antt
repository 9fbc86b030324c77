use Rattle.spec_cabac.proofs.Law.{pieces_read}
use Rattle.spec_cabac.proofs.pieces_are_read_back.Goals as goal

pub returns : goal.returns
returns c = pieces_read
