use Rattle.spec_coarsest.proofs.Short.{layer_most, payload_most}
use Rattle.spec_coarsest.proofs.coarsest_slices_are_short.Goals as goal

pub returns-clause-bits : goal.returns-clause-bits
returns-clause-bits c = layer_most

pub returns-clause-padded : goal.returns-clause-padded
returns-clause-padded c = payload_most
