use Rattle.spec_inter_records.proofs.Along.{records_are, vectors_are}
use Rattle.spec_inter_records.proofs.coded_slices_are_records.Goals as goal

pub returns : goal.returns
returns c = record { records = records_are; vectors = vectors_are }
