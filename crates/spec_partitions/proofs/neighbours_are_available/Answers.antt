use Rattle.spec_partitions.proofs.Available.{left_is, above_is, above_right_is, corner_is}
use Rattle.spec_partitions.proofs.neighbours_are_available.Goals as goal

pub returns : goal.returns
returns c = record { left = left_is; above = above_is; above_right = above_right_is; above_left = corner_is }
