-- Streams of IDR pictures, each with its parameter sets.
use Rattle.std.specs.Prelude.{ℕ, ◌≡◌, ◌+◌, ◌*◌, ◌<◌, Bool, true, false, List, [], ◌∷◌, ◌++◌, map, Some, Option}
use Rattle.std.specs.List.{flat_map}
use Rattle.spec_film.specs.Films.{Planes}
use Rattle.spec_headers.specs.declared.heads.SeqHead.{SeqHead}
use Rattle.spec_headers.specs.declared.heads.SliceHead.{SliceHead}
use Rattle.enc_tables.specs.declared.records.SliceKind.TheVariants.{I}
use Rattle.spec_lists.specs.Heads.{common, is_other}
use Rattle.spec_headers.specs.HeadFields.{sequence_payload, picture_payload}
use Rattle.spec_bits.specs.Units.{unit_bytes, EndsWell}
use Rattle.spec_decoder.specs.Sets.{across_of, down_of}
use Rattle.spec_decoder.specs.Pictures.{Reading, shown_planes}

-- the payload of a slice, and what it is read as
pub record CodedSlice (S : Type 0) : Type 0 where
  pub payload : List ℕ
  pub slice : S

-- the slices of a picture
abbrev pub slices_in : {S : Type 0} → List (CodedSlice S) → List S
slices_in coded = map (λ c. c.slice) coded

abbrev pub slice_units : {S : Type 0} → List (CodedSlice S) → List ℕ
slice_units coded = flat_map (λ c. unit_bytes false 3 5 c.payload) coded

-- the access unit of an IDR picture (clause 7.4.1.2.3): nal_unit_type 7, 8 and 5, nal_ref_idc 3
unfoldable pub picture_units : {S : Type 0} → SeqHead → Bool × Bool → List (CodedSlice S) → List ℕ
picture_units s flags coded =
    unit_bytes true 3 7 (sequence_payload s) ++ (unit_bytes true 3 8 (picture_payload flags.0 flags.1) ++ slice_units coded)

-- the pictures, one after another
unfoldable pub stream_of : {S : Type 0} → SeqHead → Bool × Bool → List (List (CodedSlice S)) → List ℕ
stream_of s flags pictures = flat_map (picture_units s flags) pictures

-- a slice of an IDR picture that begins behind so many macroblocks, whose header agrees with this one, and the payload that is read as it
pub record IsCodedSlice {S : Type 0} (r : Reading S) (s : SeqHead) (flags : Bool × Bool) (lead : SliceHead) (before : ℕ) (c : CodedSlice S) : Type 0 where
  pub reads : r.slice s flags true [] c.payload ≡ Some c.slice
  pub ends : EndsWell c.payload
  pub first : (r.head c.slice).first_mb ≡ before
  pub some : 0 < r.count c.slice
  pub agrees : common (r.head c.slice) ≡ common lead
  pub kind : (r.head c.slice).kind ≡ I
  pub idr : (r.head c.slice).idr ≡ true
  pub frame_num : (r.head c.slice).frame_num ≡ 0
  pub poc : (r.head c.slice).poc ≡ 0

-- the slices cover the macroblocks behind so many, in order, each once
abbrev pub Covers : {S : Type 0} → Reading S → SeqHead → Bool × Bool → SliceHead → ℕ → List (CodedSlice S) → Type 0
Covers r s flags lead before [] = before ≡ across_of s * down_of s
Covers r s flags lead before (c ∷ cs) = IsCodedSlice r s flags lead before c × Covers r s flags lead (before + r.count c.slice) cs

-- a picture whose slices' headers agree with this one, and whose idr_pic_id isn't that of the IDR picture before, where there is one
pub record IsCovered {S : Type 0} (r : Reading S) (s : SeqHead) (flags : Bool × Bool) (before : Option ℕ) (lead : SliceHead) (p : List (CodedSlice S)) : Type 0 where
  pub covers : Covers r s flags lead 0 p
  pub other : is_other (Some lead.idr_id) before ≡ true

-- before: idr_pic_id of the IDR picture before
abbrev pub AllCover : {S : Type 0} → Reading S → SeqHead → Bool × Bool → Option ℕ → List (List (CodedSlice S)) → Type 0
AllCover r s flags before [] = Unit {0}
AllCover r s flags before (p ∷ ps) = (lead : SliceHead) × (IsCovered r s flags before lead p × AllCover r s flags (Some lead.idr_id) ps)

-- what each picture shows
abbrev pub shown_of : {S : Type 0} → Reading S → SeqHead → List (List (CodedSlice S)) → List Planes
shown_of r s pictures = map (λ p. shown_planes s (r.planes s [] (slices_in p))) pictures

-- the slices of each picture
abbrev pub slices_of_each : {S : Type 0} → List (List (CodedSlice S)) → List (List S)
slices_of_each pictures = map slices_in pictures
