use Rattle.spec_inter_plans.proofs.Windows.{window_found, window_only}
use Rattle.spec_inter_plans.proofs.windows_have_one_best.Goals as goal

pub returns : goal.returns
returns c = record { found = window_found; only = window_only }
