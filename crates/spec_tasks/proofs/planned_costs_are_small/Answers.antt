use Rattle.spec_tasks.proofs.Costs.{planned_cheap}
use Rattle.spec_tasks.proofs.planned_costs_are_small.Goals as goal

pub returns : goal.returns
returns c = planned_cheap
