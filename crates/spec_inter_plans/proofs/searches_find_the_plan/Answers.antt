use Rattle.spec_inter_plans.proofs.Near.{found_only, found_size, found_small}
use Rattle.spec_inter_plans.proofs.searches_find_the_plan.Goals as goal

pub returns : goal.returns
returns c = record { only = found_only; size = found_size; near = found_small }
