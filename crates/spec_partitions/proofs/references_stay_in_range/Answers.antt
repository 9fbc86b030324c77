use Rattle.spec_partitions.proofs.InRange.{parts_fit}
use Rattle.spec_partitions.proofs.references_stay_in_range.Goals as goal

pub returns : goal.returns
returns c = parts_fit
