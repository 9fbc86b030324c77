use Rattle.spec_inter_plans.proofs.Rounds.{refined_found, refined_only}
use Rattle.spec_inter_plans.proofs.refinements_have_one_result.Goals as goal

pub returns : goal.returns
returns c = record { found = refined_found; only = refined_only }
