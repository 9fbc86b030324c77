use Rattle.unit_writer.proofs.Joining.{idr_is, other_is}
use Rattle.unit_writer.proofs.laws.units_make_accesses.Goals as goal

pub returns-clause-idr : goal.returns-clause-idr
returns-clause-idr c = idr_is

pub returns-clause-other : goal.returns-clause-other
returns-clause-other c = other_is
