use Rattle.spec_coding.proofs.Choosing.{is_trial, refused_means}
use Rattle.spec_coding.proofs.picked_trials_fit.Goals as goal

pub returns-clause-fits : goal.returns-clause-fits
returns-clause-fits bounds c = is_trial

pub returns-clause-refused : goal.returns-clause-refused
returns-clause-refused bounds c = refused_means
