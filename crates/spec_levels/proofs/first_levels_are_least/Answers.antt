use Rattle.spec_levels.proofs.First.{least_is, none_fits}
use Rattle.spec_levels.proofs.first_levels_are_least.Goals as goal

pub returns : goal.returns
returns c = record { least = least_is; none = none_fits }
