-- What is around a macroblock, without where it lies in memory.
use Rattle.enc_tables.specs.declared.records.MbRecord.{MbRecord}
use Rattle.spec_contexts.specs.Near.{pointed}
use Rattle.spec_partitions.specs.Near.{Near}
use Rattle.mb_syntax.specs.declared.Around.{Around}

-- the QP of the macroblock before is that of this one: no mb_qp_delta but 0 is written
abbrev pub near_of : Around → MbRecord → Near
near_of a mb = record { kind = a.kind; left = pointed a.left; above = pointed a.above; last_delta = a.last_delta; qp = mb.qp; t8x8 = a.t8x8; refs0 = a.refs0; refs1 = a.refs1 }
