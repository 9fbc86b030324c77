use Rattle.spec_bits.proofs.UnitLaws.{units_are_read_back}
use Rattle.spec_bits.proofs.Payloads.{filler_is_nal}
use Rattle.nal_writer.proofs.units.units_are_read_back.Goals as goal

pub returns-clause-units : goal.returns-clause-units
returns-clause-units c = units_are_read_back

pub returns-clause-filler : goal.returns-clause-filler
returns-clause-filler c = filler_is_nal
