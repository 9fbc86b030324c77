use Rattle.spec_inter_records.proofs.Along.{coarsest_are}
use Rattle.spec_inter_records.proofs.coarsest_slices_are_records.Goals as goal

pub returns : goal.returns
returns c = coarsest_are
