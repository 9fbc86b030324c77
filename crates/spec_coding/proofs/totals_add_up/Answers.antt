use Rattle.spec_coding.proofs.Reporting.{totals_add_up}
use Rattle.spec_coding.proofs.totals_add_up.Goals as goal

pub returns : goal.returns
returns bounds c = totals_add_up
