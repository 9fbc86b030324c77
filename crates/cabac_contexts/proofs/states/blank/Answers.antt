use Rattle.cabac_contexts.proofs.Started.{blank_known}
use Rattle.cabac_contexts.proofs.states.blank.Goals as goal

pub returns : goal.returns
returns c = blank_known 436
