-- The records of a slice, and the slice.
use Rattle.std.specs.Prelude.{ℕ, Bool, if◌then◌else◌, List}
use Rattle.enc_tables.specs.declared.records.MbRecord.{MbRecord}
use Rattle.spec_film.specs.Films.{Planes}
use Rattle.spec_headers.specs.declared.heads.SliceHead.{SliceHead}
use Rattle.spec_slice_payload.specs.Layer.{Slice}
use Rattle.spec_coded.specs.Tasks.{Task, record_after, task_records}
use Rattle.spec_coded.specs.Coarsest.{coarsest_after, coarsest_records}

-- the coarsest records, or those of the written choice, where these planes were built before
abbrev pub records_by : Bool → Task → Planes → ℕ → List MbRecord
records_by coarsest t before n = if coarsest then coarsest_records t before n else task_records t before n

-- the record of the macroblock behind these
abbrev pub next_by : Bool → Task → List MbRecord → Planes → MbRecord
next_by coarsest t before p = if coarsest then coarsest_after t before p else record_after t before p

-- a slice with this header, of so many macroblocks
abbrev pub coded : Bool → SliceHead → Task → Planes → ℕ → Slice
coded coarsest h t before count = record { head = h; records = records_by coarsest t before count }
