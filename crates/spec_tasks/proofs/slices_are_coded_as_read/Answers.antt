use Rattle.spec_tasks.proofs.Told.{seen_alike}
use Rattle.spec_tasks.proofs.slices_are_coded_as_read.Goals as goal

pub returns : goal.returns
returns c = seen_alike
