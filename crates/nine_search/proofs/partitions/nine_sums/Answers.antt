use Rattle.std.specs.Prelude.{slice_index}
use Rattle.nine_search.proofs.Summing.{listed_sums}
use Rattle.nine_search.proofs.partitions.nine_sums.Goals as goal

pub returns : goal.returns
returns c k p = listed_sums (slice_index c.args.parts.now) k p
