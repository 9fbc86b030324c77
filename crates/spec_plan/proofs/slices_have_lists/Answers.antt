use Rattle.spec_plan.proofs.Held.{p_have, b_have}
use Rattle.spec_plan.proofs.slices_have_lists.Goals as goal

pub returns-clause-p : goal.returns-clause-p
returns-clause-p c = p_have

pub returns-clause-b : goal.returns-clause-b
returns-clause-b c = b_have
