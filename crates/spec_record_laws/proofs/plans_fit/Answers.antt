use Rattle.spec_record_laws.proofs.Plans.{plans_fit, choices_are_coded}
use Rattle.spec_record_laws.proofs.Allowed.{plans_allowed}
use Rattle.spec_record_laws.proofs.plans_fit.Goals as goal

pub returns : goal.returns
returns c = record { modes = plans_fit; allowed = plans_allowed; kind = choices_are_coded }
