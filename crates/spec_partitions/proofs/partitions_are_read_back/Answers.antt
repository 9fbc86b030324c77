use Rattle.spec_partitions.proofs.Written.{reads_inter}
use Rattle.spec_partitions.proofs.InterGoesOn.{goes_inter, goes_subs}
use Rattle.spec_partitions.proofs.partitions_are_read_back.Goals as goal

pub returns : goal.returns
returns c = record { written = λ near mb m w. reads_inter near mb (w.parts_fit m) (w.mvds_fit m); goes_on = goes_inter; sub_types_go_on = goes_subs }
