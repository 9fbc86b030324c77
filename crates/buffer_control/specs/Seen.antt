-- What contracts see of a ledger.
use Rattle.spec_buffer.specs.Buffer.{Rate}
use Rattle.spec_buffer.specs.Ledger.{Ledger as Spent}
use Rattle.buffer_control.specs.declared.Ledger.{Ledger}
use Rattle.buffer_control.specs.Kept.{rate_by, spent_by}

-- its settings, which never change
abbrev pub rate_of : Ledger → Rate
rate_of l = rate_by l.rate l.cpb l.delay l.num l.den

-- the units that were spent, their bits with filler, and the base of the quantisation parameters
abbrev pub spent_of : Ledger → Spent
spent_of l = spent_by l.units l.bits l.qp
