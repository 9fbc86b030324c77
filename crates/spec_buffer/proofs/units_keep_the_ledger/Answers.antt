use Rattle.std.proofs.Common.{refl}
use Rattle.spec_buffer.proofs.Holds.{at_start, step}
use Rattle.spec_buffer.proofs.units_keep_the_ledger.Goals as goal

pub returns-clause-start : goal.returns-clause-start
returns-clause-start c = at_start

pub returns-clause-step : goal.returns-clause-step
returns-clause-step c = λ t l bits is k small. (step t l bits _ is k small refl).1
