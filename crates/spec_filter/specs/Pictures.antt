-- The filter over whole pictures (ITU-T H.264, clause 8.7): macroblock after macroblock in the order of their addresses, across slices;
-- luma and chroma each for itself.
use Rattle.std.specs.Prelude.{ℕ, ◌-◌, ◌/◌, ◌%◌, List, length, slice_index_or, ℤ}
use Rattle.enc_tables.specs.Records.{no_record}
use Rattle.enc_tables.specs.Steps.{steps}
use Rattle.enc_tables.specs.declared.records.MbRecord.{MbRecord}
use Rattle.spec_film.specs.Films.{Planes}
use Rattle.spec_filter.specs.declared.MbEdges.{MbEdges}
use Rattle.spec_filter.specs.declared.Layout.{Layout}
use Rattle.spec_filter.specs.Macroblocks.{edges_between, luma_macroblock, chroma_macroblock}

abbrev pub record_at : List MbRecord → ℕ → MbRecord
record_at records m = slice_index_or records m no_record

-- how the edges of macroblock m are filtered in a picture whose rows have `width` macroblocks, with the pictures of both lists
unfoldable pub edges_of : List ℤ → List ℤ → List MbRecord → ℕ → ℕ → MbEdges
edges_of pictures0 pictures1 records width m =
    edges_between pictures0 pictures1 (m % width) (m / width) (record_at records (m - 1)) (record_at records (m - width)) (record_at records m)

-- the first n macroblocks are filtered
unfoldable pub luma_filtered : (ℕ → MbEdges) → ℕ → Layout → ℕ → List ℕ → List ℕ
luma_filtered edges width at = steps (λ m. luma_macroblock (edges m) at (m % width) (m / width))

unfoldable pub chroma_filtered : (ℕ → MbEdges) → ℕ → Layout → ℕ → List ℕ → List ℕ
chroma_filtered edges width at = steps (λ m. chroma_macroblock (edges m) at (m % width) (m / width))

-- a plane whose rows follow each other
abbrev pub rows_of : ℕ → Layout
rows_of width = record { origin = 0; stride = width }

-- a picture of so many luma samples in a row, after the filter
unfoldable pub picture_filtered : List ℤ → List ℤ → List MbRecord → ℕ → Planes → Planes
picture_filtered pictures0 pictures1 records width planes =
    let edges : ℕ → MbEdges = edges_of pictures0 pictures1 records (width / 16) in record {
      luma = luma_filtered edges (width / 16) (rows_of width) (length records) planes.luma;
      cb = chroma_filtered edges (width / 16) (rows_of (width / 2)) (length records) planes.cb;
      cr = chroma_filtered edges (width / 16) (rows_of (width / 2)) (length records) planes.cr;
    }
