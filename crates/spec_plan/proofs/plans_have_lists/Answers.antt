use Rattle.spec_plan.proofs.Lists.{plans_have_lists}
use Rattle.spec_plan.proofs.plans_have_lists.Goals as goal

pub returns : goal.returns
returns c = plans_have_lists
