use Rattle.spec_buffer.proofs.Least.{base_fits, start_fits}
use Rattle.spec_buffer.proofs.parameters_fit.Goals as goal

pub returns-clause-base : goal.returns-clause-base
returns-clause-base c = base_fits

pub returns-clause-start : goal.returns-clause-start
returns-clause-start c = start_fits
