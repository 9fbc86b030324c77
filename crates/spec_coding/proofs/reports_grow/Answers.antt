use Rattle.spec_coding.proofs.Reporting.{reports_grow}
use Rattle.spec_coding.proofs.reports_grow.Goals as goal

pub returns : goal.returns
returns bounds c = reports_grow
