use Rattle.spec_buffer.proofs.Least.{fillers_are_least, filler_fits}
use Rattle.spec_buffer.proofs.fillers_are_least.Goals as goal

pub returns-clause-fits : goal.returns-clause-fits
returns-clause-fits c = filler_fits

pub returns-clause-least : goal.returns-clause-least
returns-clause-least c = fillers_are_least
