use Rattle.std.proofs.Common.{refl}
use Rattle.nine_search.specs.Runs.{spot_of}
use Rattle.nine_search.proofs.runs.Run.spot_at.Goals as goal

pub returns-then-self : goal.returns-then-self
unfolding spot_of
returns-then-self c = rw (c.if-self.true) refl

pub returns-else-self : goal.returns-else-self
unfolding spot_of
returns-else-self c = rw (c.if-self.false) refl
