use Rattle.spec_record_laws.proofs.Whole.{records_are_coded, coded_moves}
use Rattle.spec_record_laws.proofs.records_are_coded.Goals as goal

pub returns : goal.returns
returns c = record { written = records_are_coded; motion = coded_moves }
