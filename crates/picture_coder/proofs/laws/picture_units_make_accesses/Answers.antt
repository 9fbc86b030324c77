use Rattle.picture_coder.proofs.Streams.{are_units}
use Rattle.picture_coder.proofs.laws.picture_units_make_accesses.Goals as goal

pub returns : goal.returns
returns c = are_units
