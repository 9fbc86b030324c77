use Rattle.nine_search.proofs.Counting.{added_at}
use Rattle.nine_search.proofs.lanes.both.Goals as goal

pub returns : goal.returns
returns c i u v p h k most = added_at i u v c.args.a c.args.b p h k most
