use Rattle.spec_buffer.proofs.Least.{available_is_there, there_is_available, available_fits}
use Rattle.spec_buffer.proofs.available_is_there.Goals as goal

pub returns-clause-fits : goal.returns-clause-fits
returns-clause-fits c = available_is_there

pub returns-clause-whole : goal.returns-clause-whole
returns-clause-whole c = there_is_available

pub returns-clause-buffer : goal.returns-clause-buffer
returns-clause-buffer c = available_fits
