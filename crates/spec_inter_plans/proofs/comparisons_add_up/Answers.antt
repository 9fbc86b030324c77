use Rattle.spec_inter_plans.proofs.Adding.{by_pictures}
use Rattle.spec_inter_plans.proofs.comparisons_add_up.Goals as goal

pub returns : goal.returns
returns c = by_pictures
