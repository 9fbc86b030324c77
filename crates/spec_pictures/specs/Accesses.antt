-- Streams of pictures of all kinds, one after another.
use Rattle.std.specs.Prelude.{ℕ, ◌≡◌, ◌+◌, ◌-◌, ◌*◌, ◌<◌, ◌≤◌, ◌⊎◌, max, ◌==◌, ◌||◌, Bool, true, false, List, [], ◌∷◌, ◌++◌, map, Some, if◌then◌else◌, Option, None}
use Rattle.std.specs.List.{flat_map, AllByRecursion}
use Rattle.enc_tables.specs.declared.records.PlanStep.{PlanStep}
use Rattle.enc_tables.specs.declared.records.SliceKind.{SliceKind}
use Rattle.enc_tables.specs.declared.records.SliceKind.TheVariants.{I}
use Rattle.spec_film.specs.Films.{Planes}
use Rattle.spec_headers.specs.declared.heads.SeqHead.{SeqHead}
use Rattle.spec_headers.specs.declared.heads.SliceHead.{SliceHead}
use Rattle.spec_headers.specs.HeadFields.{sequence_payload, picture_payload}
use Rattle.spec_bits.specs.Units.{Nal, written, EndsWell}
use Rattle.spec_decoder.specs.Sets.{across_of, down_of}
use Rattle.spec_decoder.specs.Output.{placed, pictures_in}
use Rattle.spec_lists.specs.References.{Reference, kept}
use Rattle.spec_lists.specs.Heads.{is_referred, ref_idc_of, common, idr_id_of, is_other}
use Rattle.spec_decoder.specs.Passed.{is_passed}
use Rattle.spec_pictures.specs.Coded.{CodedSlice, slices_in}
use Rattle.spec_decoder.specs.Pictures.{Reading, made, shown_planes, held_behind}

-- A picture as it stands in a stream: its step in the plan, its slices, and the units before and behind them that a decoder passes over
pub record Access (S : Type 0) : Type 0 where
  pub step : PlanStep
  pub before : List Nal
  pub slices : List (CodedSlice S)
  pub behind : List Nal

-- ---- its units (clause 7.4.1.2.3)

abbrev pub sequence_nal : SeqHead → Nal
sequence_nal s = record { ref_idc = 3; kind = 7; payload = sequence_payload s }

abbrev pub picture_nal : Bool × Bool → Nal
picture_nal flags = record { ref_idc = 3; kind = 8; payload = picture_payload flags.0 flags.1 }

-- nal_unit_type 5 of IDR pictures, 1 of others
abbrev pub slice_nal : {S : Type 0} → Bool → SliceKind → CodedSlice S → Nal
slice_nal idr kind c = record { ref_idc = ref_idc_of idr kind; kind = if idr then 5 else 1; payload = c.payload }

abbrev pub slice_nals : {S : Type 0} → PlanStep → List (CodedSlice S) → List Nal
slice_nals st slices = map (slice_nal st.idr st.kind) slices

-- parameter sets, of IDR pictures alone
abbrev pub set_nals : SeqHead → Bool × Bool → Bool → List Nal
set_nals s flags true = sequence_nal s ∷ picture_nal flags ∷ []
set_nals s flags false = []

unfoldable pub access_nals : {S : Type 0} → SeqHead → Bool × Bool → Access S → List Nal
access_nals s flags a = set_nals s flags a.step.idr ++ (a.before ++ (slice_nals a.step a.slices ++ a.behind))

-- a start code of four bytes stands before the first unit and before parameter sets (clause B.1.2)
abbrev pub is_set : Nal → Bool
is_set nal = nal.kind == 7 || nal.kind == 8

abbrev pub started : List Nal → List (Bool × Nal)
started [] = []
started (n ∷ ns) = (true, n) ∷ map (λ m. (is_set m, m)) ns

unfoldable pub access_bytes : {S : Type 0} → SeqHead → Bool × Bool → Access S → List ℕ
access_bytes s flags a = flat_map written (started (access_nals s flags a))

unfoldable pub accesses_bytes : {S : Type 0} → SeqHead → Bool × Bool → List (Access S) → List ℕ
accesses_bytes s flags accesses = flat_map (access_bytes s flags) accesses

-- ---- what a decoder is owed of it

-- the header says what the step does, and agrees with those of the other slices
pub record HasHead (lead : SliceHead) (st : PlanStep) (h : SliceHead) : Type 0 where
  pub agrees : common h ≡ common lead
  pub kind : h.kind ≡ st.kind
  pub idr : h.idr ≡ st.idr
  pub frame_num : h.frame_num ≡ st.frame_num
  pub poc : h.poc ≡ st.poc

-- a slice that begins behind so many macroblocks, and the payload that is read as it with these references in view
pub record IsCodedSlice {S : Type 0} (r : Reading S) (s : SeqHead) (flags : Bool × Bool) (held : List Reference) (lead : SliceHead) (st : PlanStep) (before : ℕ) (c : CodedSlice S) : Type 0 where
  pub reads : r.slice s flags st.idr held c.payload ≡ Some c.slice
  pub ends : EndsWell c.payload
  pub first : (r.head c.slice).first_mb ≡ before
  pub some : 0 < r.count c.slice
  pub head : HasHead lead st (r.head c.slice)

-- the slices cover the macroblocks behind so many, in order, each once
abbrev pub Covers : {S : Type 0} → Reading S → SeqHead → Bool × Bool → List Reference → SliceHead → PlanStep → ℕ → List (CodedSlice S) → Type 0
Covers r s flags held lead st before [] = before ≡ across_of s * down_of s
Covers r s flags held lead st before (c ∷ cs) = IsCodedSlice r s flags held lead st before c × Covers r s flags held lead st (before + r.count c.slice) cs

pub record IsPassedOver (nal : Nal) : Type 0 where
  pub kind : (nal.kind ≡ 6) ⊎ (nal.kind ≡ 12)
  pub ref_idc : nal.ref_idc ≡ 0
  pub passed : is_passed nal ≡ true
  pub ends : EndsWell nal.payload

pub record IsAccess {S : Type 0} (r : Reading S) (s : SeqHead) (flags : Bool × Bool) (held : List Reference) (a : Access S) : Type 0 where
  pub lead : SliceHead
  pub covers : Covers r s flags held lead a.step 0 a.slices
  pub before : AllByRecursion IsPassedOver a.before
  pub behind : AllByRecursion IsPassedOver a.behind

-- the picture that a's slices make, where these references were held before, and what is held behind it
abbrev pub picture_of : {S : Type 0} → Reading S → SeqHead → List Reference → Access S → Reference
picture_of r s held a = made r s a.step.frame_num a.step.poc (kept a.step.idr held) (slices_in a.slices)

unfoldable pub held_after : {S : Type 0} → Reading S → SeqHead → List Reference → Access S → List Reference
held_after r s held a = held_behind s (is_referred a.step.kind) (picture_of r s held a) (kept a.step.idr held)

abbrev pub AllCoded : {S : Type 0} → Reading S → SeqHead → Bool × Bool → List Reference → List (Access S) → Type 0
AllCoded r s flags held [] = Unit {0}
AllCoded r s flags held (a ∷ rest) = IsAccess r s flags (kept a.step.idr held) a × AllCoded r s flags (held_after r s held a) rest

-- ---- how the steps of a plan follow one another

-- An IDR picture is shown behind all before it. Another picture's order count is twice its distance from the last IDR picture, and its
-- frame_num the next one. begun: there was an IDR picture; base: its place in display order; top: above all places so far; next: the
-- frame_num that follows
abbrev pub IsPlaced : Bool → Bool → ℕ → ℕ → ℕ → PlanStep → Type 0
IsPlaced true begun base top next st = (top ≤ st.display) × (st.poc ≡ 0) × (st.frame_num ≡ 0) × (st.kind ≡ I)
IsPlaced false begun base top next st = (begun ≡ true) × (base ≤ st.display) × (st.poc ≡ 2 * (st.display - base)) × (st.poc < 32768) × (st.frame_num ≡ next) × (next < 65536)

abbrev pub base_after : Bool → ℕ → ℕ → ℕ
base_after true base display = display
base_after false base display = base

abbrev pub next_after : Bool → Bool → ℕ → ℕ
next_after true referred next = 1
next_after false true next = next + 1
next_after false false next = next

abbrev pub Follows : Bool → ℕ → ℕ → ℕ → List PlanStep → Type 0
Follows begun base top next [] = Unit {0}
Follows begun base top next (st ∷ sts) =
    IsPlaced st.idr begun base top next st
    × Follows true (base_after st.idr base st.display) (max top (st.display + 1)) (next_after st.idr (is_referred st.kind) next) sts

-- ---- how the identifiers of IDR pictures follow one another

-- the idr_pic_id of the picture that slices make, where it is an IDR picture
abbrev pub id_in : {S : Type 0} → Reading S → List S → Option ℕ
id_in r [] = None
id_in r (x ∷ xs) = idr_id_of (r.head x).idr (r.head x).idr_id

-- of two IDR pictures, one after the other, each has its own; before: that of the picture before
abbrev pub AreOthers : {S : Type 0} → Reading S → Option ℕ → List (List S) → Type 0
AreOthers r before [] = Unit {0}
AreOthers r before (p ∷ ps) = (is_other (id_in r p) before ≡ true) × AreOthers r (id_in r p) ps

-- ---- what it shows

-- with their places in display order, behind those that were shown before
unfoldable pub shown_from : {S : Type 0} → Reading S → SeqHead → List Reference → List (ℕ × Planes) → List (Access S) → List (ℕ × Planes)
shown_from r s held before [] = before
shown_from r s held before (a ∷ rest) =
    shown_from r s (held_after r s held a) (placed (a.step.display, shown_planes s (picture_of r s held a).planes) before) rest

-- the pictures in display order
abbrev pub pictures_shown : {S : Type 0} → Reading S → SeqHead → List (Access S) → List Planes
pictures_shown r s accesses = pictures_in (shown_from r s [] [] accesses)

-- the places of the pictures in display order
abbrev pub places_of : {S : Type 0} → List (Access S) → List ℕ
places_of accesses = map (λ a. a.step.display) accesses

-- the slices of each picture, in coded order
abbrev pub slices_of_accesses : {S : Type 0} → List (Access S) → List (List S)
slices_of_accesses accesses = map (λ a. slices_in a.slices) accesses
