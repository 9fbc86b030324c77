-- What a decoder shows of streams: what their macroblocks make, filtered and cropped.
use Rattle.std.specs.Prelude.{ℕ, ◌+◌, ◌*◌, ◌/◌, ◌%◌, Bool, List, [], ◌∷◌, length, map, take, drop, replicate, slice_index_or, Option, Some, None}
use Rattle.std.specs.List.{flat_map}
use Rattle.enc_tables.specs.declared.records.MbKind.TheVariants as kinds
use Rattle.enc_tables.specs.declared.records.MbRecord.{MbRecord}
use Rattle.enc_tables.specs.declared.records.Motion.{Motion}
use Rattle.enc_tables.specs.Kinds.{is_intra}
use Rattle.enc_tables.specs.Records.{blank_record}
use Rattle.enc_tables.specs.Steps.{steps}
use Rattle.spec_film.specs.Films.{Planes}
use Rattle.spec_decoder.specs.Sets.{across_of, down_of}
use Rattle.spec_headers.specs.declared.heads.SliceHead.{SliceHead}
use Rattle.spec_lists.specs.References.{Reference}
use Rattle.spec_lists.specs.Lists.{Lists, lists_of, no_lists, pictures_of}
use Rattle.spec_reconstruction.specs.Inter.{Sources}
use Rattle.spec_reconstruction.specs.Parts.{with_block}
use Rattle.spec_reconstruction.specs.Records.{macroblock_built}
use Rattle.spec_filter.specs.Pictures.{picture_filtered}
use Rattle.spec_decoder.specs.Pictures.{Reading, decode_by, read_by}
use Rattle.spec_decoder.specs.Macroblocks.{Macroblock, pcm, coded, record_of, Slice, read_slice}

-- `width` is how many macroblocks a row of the picture has.

-- a picture before any macroblock is built
unfoldable pub blank_planes : ℕ → ℕ → Planes
blank_planes across down = record {
  luma = replicate (16 * down * (16 * across)) 0;
  cb = replicate (8 * down * (8 * across)) 0;
  cr = replicate (8 * down * (8 * across)) 0;
}

-- the lists of a header that has them
abbrev pub or_none : Option Lists → Lists
or_none None = no_lists
or_none (Some lists) = lists

abbrev pub lists_by : SliceHead → List Reference → Lists
lists_by h held = or_none (lists_of h held)

-- the pictures that a slice refers to
abbrev pub sources_by : SliceHead → List Reference → Sources
sources_by h held = record { list0 = map (λ r. r.planes) (lists_by h held).list0; list1 = map (λ r. r.planes) (lists_by h held).list1 }

-- the planes with the samples of the I_PCM macroblock at an address (clauses 6.4.1 and 8.3.5)
unfoldable pub samples_put : ℕ → ℕ → List ℕ → Planes → Planes
samples_put width address samples p = record {
  luma = with_block (16 * width) (16 * (address % width)) (16 * (address / width)) 16 (take 256 samples) p.luma;
  cb = with_block (8 * width) (8 * (address % width)) (8 * (address / width)) 8 (take 64 (drop 256 samples)) p.cb;
  cr = with_block (8 * width) (8 * (address % width)) (8 * (address / width)) 8 (take 64 (drop 320 samples)) p.cr;
}

-- the planes with the macroblock at an address of a slice, whose first macroblock is `first` (clauses 8.3, 8.4 and 8.5)
abbrev pub macroblock_made : ℕ → Sources → ℕ → ℕ → Macroblock → Planes → Planes
macroblock_made width s first address (pcm samples) p = samples_put width address samples p
macroblock_made width s first address (coded mb) p = macroblock_built width s first address mb p

-- the planes with a slice: its macroblocks one after another
unfoldable pub slice_made : ℕ → Sources → ℕ → List Macroblock → Planes → Planes
slice_made width s first mbs p =
    steps (λ k now. macroblock_made width s first (first + k) (slice_index_or mbs k (coded (blank_record kinds.Pcm 0))) now) (length mbs) p

-- the planes with slices, one after another
unfoldable pub slices_made : ℕ → List Reference → List Slice → Planes → Planes
slices_made across held [] p = p
slices_made across held (s ∷ ss) p =
    slices_made across held ss (slice_made across (sources_by s.head held) s.head.first_mb s.macroblocks p)

abbrev pub all_records : List Slice → List MbRecord
all_records slices = flat_map (λ s. map record_of s.macroblocks) slices

-- the lists of a picture: its slices have the same
abbrev pub first_lists : List Reference → List Slice → Lists
first_lists held [] = no_lists
first_lists held (s ∷ ss) = lists_by s.head held

-- the picture that slices make: its macroblocks, and then the deblocking filter over the whole of it (clause 8.7)
unfoldable pub picture_made : ℕ → ℕ → List Reference → List Slice → Planes
picture_made across down held slices =
    picture_filtered (pictures_of (first_lists held slices).list0) (pictures_of (first_lists held slices).list1) (all_records slices) (16 * across)
    (slices_made across held slices (blank_planes across down))

-- what later pictures see of a macroblock's motion
abbrev pub motion_of : MbRecord → Bool × List Motion
motion_of mb = (is_intra mb.kind, mb.motion)

abbrev pub frames : Reading Slice
frames = record {
  slice = read_slice;
  head = λ s. s.head;
  count = λ s. length s.macroblocks;
  planes = λ s held slices. picture_made (across_of s) (down_of s) held slices;
  motion = λ slices. map motion_of (all_records slices);
}

-- the pictures that a decoder shows, in output order
unfoldable pub decode : List ℕ → Option (List Planes)
decode bytes = decode_by frames bytes

-- the slices that it reads, for each picture, in coded order
unfoldable pub slices_read : List ℕ → Option (List (List Slice))
slices_read bytes = read_by frames bytes
