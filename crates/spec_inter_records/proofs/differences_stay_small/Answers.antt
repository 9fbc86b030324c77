use Rattle.spec_inter_records.proofs.Differences.{first_small, second_small}
use Rattle.spec_inter_records.proofs.differences_stay_small.Goals as goal

pub returns : goal.returns
returns c = record { first = first_small; second = second_small }
