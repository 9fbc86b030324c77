-- The numbers of a ledger, put together as its definitions have them.
use Rattle.std.specs.Prelude.{ℕ}
use Rattle.spec_buffer.specs.Buffer.{Rate}
use Rattle.spec_buffer.specs.Ledger.{Ledger as Spent}

abbrev pub rate_by : ℕ → ℕ → ℕ → ℕ → ℕ → Rate
rate_by rate cpb delay num den = record { num = num; den = den; rate = rate; cpb = cpb; delay = delay }

abbrev pub spent_by : ℕ → ℕ → ℕ → Spent
spent_by units bits qp = record { units = units; bits = bits; qp = qp }
