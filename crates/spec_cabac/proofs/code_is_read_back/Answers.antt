use Rattle.spec_cabac.proofs.Law.{round_trip}
use Rattle.spec_cabac.proofs.code_is_read_back.Goals as goal

pub returns : goal.returns
returns c = round_trip
