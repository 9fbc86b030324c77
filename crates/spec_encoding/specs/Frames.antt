-- What a decoder makes of slices of records, in its own words.
use Rattle.std.specs.Prelude.{ℕ, List, map}
use Rattle.enc_tables.specs.declared.records.MbRecord.{MbRecord}
use Rattle.spec_film.specs.Films.{Planes}
use Rattle.spec_lists.specs.References.{Reference}
use Rattle.spec_lists.specs.Lists.{Lists}
use Rattle.spec_slice_payload.specs.Layer.{Slice}
use Rattle.spec_decoder.specs.Macroblocks.{of_records}
use Rattle.spec_decoder.specs.Frames as decoder

-- the planes with slices, one after another
abbrev pub slices_built : ℕ → List Reference → List Slice → Planes → Planes
slices_built across held slices p = decoder.slices_made across held (map of_records slices) p

abbrev pub all_records : List Slice → List MbRecord
all_records slices = decoder.all_records (map of_records slices)

-- the lists of a picture: its slices have the same
abbrev pub first_lists : List Reference → List Slice → Lists
first_lists held slices = decoder.first_lists held (map of_records slices)

-- the picture that they make: built, and then filtered as a whole
abbrev pub picture_of : ℕ → ℕ → List Reference → List Slice → Planes
picture_of across down held slices = decoder.picture_made across down held (map of_records slices)
