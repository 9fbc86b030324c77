-- What a decoder shows of a stream of bytes, whatever its slices are: units, heads, slices, pictures, and these in their output order.
use Rattle.std.specs.Prelude.{ℕ, ◌*◌, ◌==◌, ◌&&◌, nat_lt, not, Bool, true, false, List, [], ◌∷◌, ◌++◌, length, Option, Some, None, option_and_then, if◌then◌else◌}
use Rattle.std.specs.Option.{option_map}
use Rattle.std.specs.List.{sum_by, list_all}
use Rattle.enc_tables.specs.declared.records.Motion.{Motion}
use Rattle.spec_film.specs.Films.{Planes}
use Rattle.spec_headers.specs.declared.heads.SeqHead.{SeqHead}
use Rattle.spec_headers.specs.declared.heads.SliceHead.{SliceHead}
use Rattle.spec_bits.specs.Units.{Nal, units_of}
use Rattle.spec_headers.specs.HeadReaders.{sequence, picture}
use Rattle.spec_decoder.specs.Sets.{read_set, across_of, down_of}
use Rattle.spec_decoder.specs.Output.{placed, pictures_in}
use Rattle.spec_film.specs.Cropping.{cropped}
use Rattle.spec_lists.specs.References.{Reference, kept, slid}
use Rattle.spec_lists.specs.Heads.{is_referred, fits_ref_idc, is_numbered, idr_id_of, is_other, agree}
use Rattle.spec_decoder.specs.Passed.{is_passed}

-- What is left open here: how the payload of a slice is read, by the parameter sets (entropy_coding_mode_flag and
-- transform_8x8_mode_flag of the second), by whether its picture is an IDR picture, and with the held references in view; and what slices
-- make with these references: the samples behind the deblocking filter, not cropped, and the motion of each macroblock.
pub record Reading (S : Type 0) : Type 0 where
  pub slice : SeqHead → Bool × Bool → Bool → List Reference → List ℕ → Option S
  pub head : S → SliceHead
  pub count : S → ℕ  -- how many macroblocks a slice has
  pub planes : SeqHead → List Reference → List S → Planes
  pub motion : List S → List (Bool × List Motion)

pub record Decoder (S : Type 0) : Type 0 where
  pub sequence_set : Option SeqHead
  pub picture_set : Option (Bool × Bool)
  pub sets_before : Bool  -- whether parameter sets stand before the next picture
  pub held : List Reference  -- the newest first
  pub begun : List S  -- the slices of the picture that is being read
  pub idr_before : Option ℕ  -- idr_pic_id of the picture before, where it is an IDR picture
  pub period : List (ℕ × Planes)  -- the pictures since the last IDR picture, by rising picture order count
  pub out : List Planes  -- the pictures of the periods before, in output order
  pub read : List (List S)  -- the slices of each whole picture, in coded order

abbrev pub start : {S : Type 0} → Decoder S
start = record { sequence_set = None; picture_set = None; sets_before = false; held = []; begun = []; idr_before = None; period = []; out = []; read = [] }

-- how many macroblocks slices have
abbrev pub counted : {S : Type 0} → Reading S → List S → ℕ
counted r slices = sum_by r.count slices

-- the picture that slices make with these references, as later pictures refer to it
unfoldable pub made : {S : Type 0} → Reading S → SeqHead → ℕ → ℕ → List Reference → List S → Reference
made r s frame_num poc held slices = record { planes = r.planes s held slices; motion = r.motion slices; poc = poc; frame_num = frame_num }

-- its samples as they are shown
abbrev pub shown_planes : SeqHead → Planes → Planes
shown_planes s p = cropped (across_of s) s.width s.height p

-- the references behind a picture
abbrev pub held_behind : SeqHead → Bool → Reference → List Reference → List Reference
held_behind s referred new held = if referred then slid s.refs new held else held

-- A picture is whole: an IDR picture is shown behind all pictures before it, another by its picture order count since the last IDR picture
-- (clauses 8.2.1 and C.4.5). B pictures aren't held.
unfoldable pub shown : {S : Type 0} → Reading S → SeqHead → Bool → Bool → ℕ → ℕ → ℕ → List S → Decoder S → Decoder S
shown r s referred idr idr_id frame_num poc slices d =
    let new = made r s frame_num poc (kept idr d.held) slices in record {
      sequence_set = d.sequence_set;
      picture_set = d.picture_set;
      sets_before = false;
      held = held_behind s referred new (kept idr d.held);
      begun = [];
      idr_before = idr_id_of idr idr_id;
      period = placed (poc, shown_planes s new.planes) (if idr then [] else d.period);
      out = if idr then d.out ++ pictures_in d.period else d.out;
      read = d.read ++ slices ∷ [];
    }

-- the slices of a picture cover its macroblocks in order, each once
unfoldable pub joined : {S : Type 0} → Reading S → SeqHead → SliceHead → List S → Decoder S → Option (Decoder S)
joined r s h slices d =
    if nat_lt (counted r slices) (across_of s * down_of s) then Some (record d { begun = slices })
    else if counted r slices == across_of s * down_of s then Some (shown r s (is_referred h.kind) h.idr h.idr_id h.frame_num h.poc slices d)
    else None

-- the headers of a picture's slices agree
abbrev pub goes_with : {S : Type 0} → Reading S → List S → SliceHead → Bool
goes_with r [] h = true
goes_with r (b ∷ bs) h = agree (r.head b) h

-- Two IDR pictures, one after the other, differ in idr_pic_id (clause 7.4.3). Parameter sets come before IDR pictures alone, and another
-- picture has a picture order count that none since the last IDR picture has (clause 8.2.1).
abbrev pub may_follow : {S : Type 0} → Decoder S → Bool → ℕ → ℕ → Bool
may_follow d true idr_id poc = is_other (Some idr_id) d.idr_before
may_follow d false idr_id poc = not d.sets_before && list_all (λ p. not (p.0 == poc)) d.period

-- nal_ref_idc is 0 where the picture isn't a reference; frame_num and the picture order count follow; the slice goes on where the ones
-- before it ended
abbrev pub is_next : {S : Type 0} → Reading S → Decoder S → ℕ → S → Bool
is_next r d ref_idc slice =
    let h = r.head slice in
    fits_ref_idc h.kind ref_idc && is_numbered h.idr h.frame_num h.poc d.held && may_follow d h.idr h.idr_id h.poc && goes_with r d.begun h && (h.first_mb == counted r d.begun)

unfoldable pub slice_step : {S : Type 0} → Reading S → SeqHead → Decoder S → ℕ → S → Option (Decoder S)
slice_step r s d ref_idc slice = if is_next r d ref_idc slice then joined r s (r.head slice) (d.begun ++ slice ∷ []) d else None

-- a slice belongs to the parameter sets before it
unfoldable pub with_slice : {S : Type 0} → Reading S → Decoder S → Bool → ℕ → List ℕ → Option (Decoder S)
with_slice r d idr ref_idc payload =
    option_and_then (λ s. option_and_then (λ flags. option_and_then (slice_step r s d ref_idc) (r.slice s flags idr (kept idr d.held) payload)) d.picture_set) d.sequence_set

-- parameter sets, supplemental enhancement information and filler data stand between pictures
abbrev pub between : {S : Type 0} → Decoder S → Option (Decoder S) → Option (Decoder S)
between d o = if length d.begun == 0 then o else None

-- a sequence parameter set comes into use with an IDR picture (clause 7.4.1.2.1), so no reference is held behind it
abbrev pub with_sequence : {S : Type 0} → Decoder S → SeqHead → Decoder S
with_sequence d s = record d { sequence_set = Some s; sets_before = true; held = [] }

abbrev pub with_picture : {S : Type 0} → Decoder S → Bool × Bool → Decoder S
with_picture d flags = record d { picture_set = Some flags; sets_before = true }

-- One unit (table 7-1): a slice of an IDR picture or of another, a parameter set, or one that is passed over
unfoldable pub step : {S : Type 0} → Reading S → Decoder S → Nal → Option (Decoder S)
step r d nal =
    if nal.kind == 5 then with_slice r d true nal.ref_idc nal.payload
    else if nal.kind == 1 then with_slice r d false nal.ref_idc nal.payload
    else if (nal.kind == 7) && nat_lt 0 nal.ref_idc then between d (option_map (with_sequence d) (read_set sequence nal.payload))
    else if (nal.kind == 8) && nat_lt 0 nal.ref_idc then between d (option_map (with_picture d) (read_set picture nal.payload))
    else if is_passed nal then between d (Some d)
    else None

unfoldable pub steps : {S : Type 0} → Reading S → Option (Decoder S) → List Nal → Option (Decoder S)
steps r None nals = None
steps r (Some d) [] = Some d
steps r (Some d) (nal ∷ nals) = steps r (step r d nal) nals

-- no picture is cut, and none is wanting behind parameter sets
abbrev pub is_whole : {S : Type 0} → Decoder S → Bool
is_whole d = (length d.begun == 0) && not d.sets_before

-- all pictures in output order
abbrev pub all_shown : {S : Type 0} → Decoder S → Option (List Planes)
all_shown d = if is_whole d then Some (d.out ++ pictures_in d.period) else None

-- the slices of all pictures, in coded order
abbrev pub all_read : {S : Type 0} → Decoder S → Option (List (List S))
all_read d = if is_whole d then Some d.read else None

-- what a decoder is behind a whole stream
abbrev pub behind : {S : Type 0} → Reading S → List ℕ → Option (Decoder S)
behind r bytes = option_and_then (steps r (Some start)) (units_of bytes)

-- The pictures that a decoder shows, in output order. Bytes whose units, heads, slices or pictures can't be read so give nothing; no bytes are no picture.
unfoldable pub decode_by : {S : Type 0} → Reading S → List ℕ → Option (List Planes)
decode_by r bytes = option_and_then all_shown (behind r bytes)

-- The slices that a decoder reads, for each picture, in coded order: the pictures that it shows are those that these slices make.
unfoldable pub read_by : {S : Type 0} → Reading S → List ℕ → Option (List (List S))
read_by r bytes = option_and_then all_read (behind r bytes)
