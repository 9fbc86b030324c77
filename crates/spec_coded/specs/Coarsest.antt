-- The coarsest records: Intra 16x16 by the mean of the samples around, without levels; in P and B slices skipped macroblocks. They look at no
-- samples of the source, and have the greatest QP.
use Rattle.std.specs.Prelude.{ℕ, List, ◌∷◌, replicate}
use Rattle.enc_tables.specs.declared.records.MbKind.{MbKind}
use Rattle.enc_tables.specs.declared.records.MbRecord.{MbRecord}
use Rattle.enc_tables.specs.declared.records.SliceKind.{SliceKind}
use Rattle.enc_tables.specs.Records.{blank_record}
use Rattle.spec_film.specs.Films.{Planes}
use Rattle.spec_partitions.specs.Near.{View, view_in}
use Rattle.spec_partitions.specs.Derived.{skip_motion, direct_motion}
use Rattle.spec_coded.specs.Planned.{moving}
use Rattle.spec_coded.specs.Tasks.{Task, built_by, records_in_order}

abbrev pub coarsest_in : SliceKind → View → MbRecord
coarsest_in SliceKind.I view = record (blank_record MbKind.Intra16 51) { modes = 2 ∷ replicate 15 0 }
coarsest_in SliceKind.P view = moving MbKind.PSkip 51 (skip_motion view)
coarsest_in SliceKind.B view = moving MbKind.BSkip 51 (direct_motion view)

-- of the macroblock behind these
unfoldable pub coarsest_after : Task → List MbRecord → Planes → MbRecord
coarsest_after t before p = coarsest_in t.facts.kind (view_in t.facts t.colocated before)

-- the records of a slice of n macroblocks
unfoldable pub coarsest_records : Task → Planes → ℕ → List MbRecord
coarsest_records t p n = records_in_order (coarsest_after t) (built_by t p) n
