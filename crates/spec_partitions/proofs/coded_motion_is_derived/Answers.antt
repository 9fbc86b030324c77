use Rattle.spec_partitions.proofs.Coded.{coded_has_motion}
use Rattle.spec_partitions.proofs.coded_motion_is_derived.Goals as goal

pub returns : goal.returns
returns c = coded_has_motion
