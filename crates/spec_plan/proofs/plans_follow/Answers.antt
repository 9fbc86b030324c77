use Rattle.spec_plan.proofs.Follow.{plans_follow, a_step_each}
use Rattle.spec_plan.proofs.plans_follow.Goals as goal

pub returns-clause-order : goal.returns-clause-order
returns-clause-order c = plans_follow

pub returns-clause-each : goal.returns-clause-each
returns-clause-each c = a_step_each
