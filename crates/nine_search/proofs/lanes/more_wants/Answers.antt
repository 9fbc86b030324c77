use Rattle.nine_search.proofs.Counting.{counted_at}
use Rattle.nine_search.proofs.lanes.more_wants.Goals as goal

pub returns : goal.returns
returns c i n v p h k most = counted_at i n v c.args.limit c.args.counts c.args.sums p h k most
