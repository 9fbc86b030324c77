use Rattle.spec_coding.proofs.Choosing.{never_refused}
use Rattle.spec_coding.proofs.small_units_are_never_refused.Goals as goal

pub returns : goal.returns
returns bounds c = never_refused
