-- The references of a record of the syntax are below the lengths of the lists.
use Rattle.enc_tables.specs.declared.records.MbRecord.{MbRecord}
use Rattle.spec_partitions.specs.Near.{View}
use Rattle.spec_partitions.specs.Records.{HasMotion}
use Rattle.spec_partitions.specs.InRange.{AllFit, ViewFits, HasEntries}
use Rattle.spec_partitions.proofs.InRange.{parts_fit}
use Rattle.spec_macroblock.specs.Records.{IsRecord}

pub references_fit : (view : View) (mb : MbRecord) → IsRecord view.near mb → HasMotion view mb → ViewFits view → HasEntries view.near.kind view.near.refs0 view.near.refs1 → AllFit view.near.refs0 view.near.refs1 mb.motion
references_fit view mb h m v e = parts_fit view mb h.in_slice (record { parts_fit = h.parts_fit; mvds_fit = h.mvds_fit }) m v e
