use Rattle.spec_tasks.proofs.Told.{task_fits, planned_records}
use Rattle.spec_tasks.proofs.planned_slices_are_records.Goals as goal

pub returns : goal.returns
returns c = record { fits = task_fits; records = planned_records }
