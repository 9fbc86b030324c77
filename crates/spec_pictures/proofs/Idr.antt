-- Streams of IDR pictures are streams of pictures.
use Rattle.std.proofs.Common.{ℕ, ◌+◌, ◌≡◌, ◌<◌, max, List, [], ◌∷◌, ◌++◌, map, Bool, true, false, Some, None, refl, ap, ap₂, sym, ◌∙◌, arith, append_assoc, append-nil, le_refl, Option, subst}
use Rattle.std.specs.List.{AllByRecursion, flat_map, IsDistinct}
use Rattle.enc_tables.specs.declared.records.PlanStep.{PlanStep}
use Rattle.enc_tables.specs.declared.records.SliceKind.TheVariants.{I}
use Rattle.spec_film.specs.Films.{Planes}
use Rattle.spec_headers.specs.declared.heads.SeqHead.{SeqHead}
use Rattle.spec_headers.specs.declared.heads.SliceHead.{SliceHead}
use Rattle.spec_headers.specs.Allowed.{IsSeqHead}
use Rattle.spec_bits.specs.Units.{Nal, written, unit_bytes}
use Rattle.spec_decoder.specs.Output.{placed, pictures_in}
use Rattle.spec_lists.specs.References.{Reference}
use Rattle.spec_decoder.specs.Pictures.{Reading, shown_planes, made, decode_by, read_by}
use Rattle.spec_pictures.specs.Coded.{CodedSlice, slices_in, slice_units, picture_units, stream_of, AllCover, shown_of, slices_of_each}
use Rattle.spec_pictures.specs.Coded as idr
use Rattle.spec_pictures.specs.Accesses.{Access, sequence_nal, picture_nal, slice_nals, is_set, access_nals, access_bytes, accesses_bytes, Covers, held_after, AllCoded, Follows, shown_from, slices_of_accesses, id_in, AreOthers, places_of}
use Rattle.spec_pictures.proofs.Order.{AtMost, placed_last, all_weaker, all_placed, pictures-append}
use Rattle.std.specs.Prelude.{nat_eq}
use Rattle.std.proofs.lemmas.Bool.Decides.{nat_tests}
use Rattle.spec_lists.specs.Heads.{is_other}
use Rattle.spec_pictures.proofs.Steps.{id_by_lead}
use Rattle.spec_pictures.proofs.Streams.{streams_decode, streams_are_read}

abbrev pub idr_step : ℕ → PlanStep
idr_step n = record { display = n; kind = I; idr = true; frame_num = 0; poc = 0 }

abbrev pub idr_access : {S : Type 0} → ℕ → List (CodedSlice S) → Access S
idr_access n p = record { step = idr_step n; before = []; slices = p; behind = [] }

pub idr_accesses : {S : Type 0} → ℕ → List (List (CodedSlice S)) → List (Access S)
idr_accesses n [] = []
idr_accesses n (p ∷ ps) = idr_access n p ∷ idr_accesses (n + 1) ps

-- ---- their bytes

slices_written : {S : Type 0} (cs : List (CodedSlice S)) → slice_units cs ≡ flat_map written (map (λ m. (is_set m, m)) (slice_nals (idr_step 0) cs))
slices_written [] = refl
slices_written (c ∷ cs) = ap (λ (rest : List ℕ). unit_bytes false 3 5 c.payload ++ rest) (slices_written cs)

picture_written : {S : Type 0} (s : SeqHead) (flags : Bool × Bool) (n : ℕ) (p : List (CodedSlice S)) → picture_units s flags p ≡ access_bytes s flags (idr_access n p)
unfolding picture_units access_bytes access_nals
picture_written s flags n p =
    ap (λ (rest : List ℕ). written (true, sequence_nal s) ++ (written (true, picture_nal flags) ++ rest))
    (slices_written p ∙ ap (λ (ns : List Nal). flat_map written (map (λ m. (is_set m, m)) ns)) (sym (append-nil (slice_nals (idr_step n) p))))

pub stream_written : {S : Type 0} (s : SeqHead) (flags : Bool × Bool) (n : ℕ) (ps : List (List (CodedSlice S))) → stream_of s flags ps ≡ accesses_bytes s flags (idr_accesses n ps)
unfolding stream_of accesses_bytes idr_accesses
stream_written s flags n [] = refl
stream_written s flags n (p ∷ ps) = ap₂ (λ (x y : List ℕ). x ++ y) (picture_written s flags n p) (stream_written s flags (n + 1) ps)

-- ---- they cover, and follow one another

pub covers_are : {S : Type 0} (r : Reading S) (s : SeqHead) (flags : Bool × Bool) (lead : SliceHead) (n before : ℕ) (cs : List (CodedSlice S)) → idr.Covers r s flags lead before cs → Covers r s flags [] lead (idr_step n) before cs
covers_are r s flags lead n before [] h = h
covers_are r s flags lead n before (c ∷ cs) h = (
  record {
    reads = h.0.reads;
    ends = h.0.ends;
    first = h.0.first;
    some = h.0.some;
    head = record { agrees = h.0.agrees; kind = h.0.kind; idr = h.0.idr; frame_num = h.0.frame_num; poc = h.0.poc };
  },
  covers_are r s flags lead n (before + r.count c.slice) cs h.1,
)

pub all_are : {S : Type 0} (r : Reading S) (s : SeqHead) (flags : Bool × Bool) (held : List Reference) (before : Option ℕ) (n : ℕ) (ps : List (List (CodedSlice S))) → AllCover r s flags before ps → AllCoded r s flags held (idr_accesses n ps)
unfolding idr_accesses
all_are r s flags held before n [] h = tt
all_are r s flags held before n (p ∷ ps) h = (
  record { lead = h.0; covers = covers_are r s flags h.0 n 0 p h.1.0.covers; before = tt; behind = tt },
  all_are r s flags (held_after r s held (idr_access n p)) (Some h.0.idr_id) (n + 1) ps h.1.1,
)

pub all_others : {S : Type 0} (r : Reading S) (s : SeqHead) (flags : Bool × Bool) (before : Option ℕ) (n : ℕ) (ps : List (List (CodedSlice S))) → IsSeqHead s → AllCover r s flags before ps → AreOthers r before (slices_of_accesses (idr_accesses n ps))
unfolding idr_accesses
all_others r s flags before n [] is h = tt
all_others r s flags before n (p ∷ ps) is h =
    let own : id_in r (slices_in p) ≡ Some h.0.idr_id = id_by_lead r s flags [] h.0 (idr_step n) p is (covers_are r s flags h.0 n 0 p h.1.0.covers) in
    (ap (λ o. is_other o before) own ∙ h.1.0.other, subst (λ o. AreOthers r o (slices_of_accesses (idr_accesses (n + 1) ps))) (sym own) (all_others r s flags (Some h.0.idr_id) (n + 1) ps is h.1.1))

-- the places rise
all_apart : {S : Type 0} (k n : ℕ) (ps : List (List (CodedSlice S))) → k < n → AllByRecursion (λ m. nat_eq k m ≡ false) (places_of (idr_accesses n ps))
unfolding idr_accesses
all_apart k n [] h = tt
all_apart k n (p ∷ ps) h = (apart k n h, all_apart k (n + 1) ps (omega (arith, h)))
  where
    apart : (a b : ℕ) → a < b → nat_eq a b ≡ false
    apart a b h = grind (arith, nat_tests)

pub all_distinct : {S : Type 0} (n : ℕ) (ps : List (List (CodedSlice S))) → IsDistinct nat_eq (places_of (idr_accesses n ps))
unfolding idr_accesses IsDistinct
all_distinct n [] = tt
all_distinct n (p ∷ ps) = (all_apart n (n + 1) ps (omega arith), all_distinct (n + 1) ps)

pub all_follow : {S : Type 0} (begun : Bool) (base next n : ℕ) (ps : List (List (CodedSlice S))) → Follows begun base n next (map (λ a. a.step) (idr_accesses n ps))
unfolding idr_accesses
all_follow begun base next n [] = tt
all_follow begun base next n (p ∷ ps) =
    let e : max n (n + 1) ≡ n + 1 = omega arith in
    ((le_refl n, refl, refl, refl), rw e (all_follow true n 1 (n + 1) ps))

-- ---- what is shown

shown_are : {S : Type 0} (r : Reading S) (s : SeqHead) (held : List Reference) (n : ℕ) (sh : List (ℕ × Planes)) (ps : List (List (CodedSlice S))) → AllByRecursion (AtMost n) sh
    → pictures_in (shown_from r s held sh (idr_accesses n ps)) ≡ pictures_in sh ++ shown_of r s ps
unfolding shown_from idr_accesses made
shown_are r s held n sh [] low = sym (append-nil (pictures_in sh))
shown_are r s held n sh (p ∷ ps) low =
    let pic : Planes = shown_planes s (r.planes s [] (slices_in p)) in
    let key : ℕ × Planes = (n, pic) in
    let more : AllByRecursion (AtMost (n + 1)) (placed key sh) = all_placed (AtMost (n + 1)) key sh (omega arith) (all_weaker (AtMost n) (AtMost (n + 1)) sh (λ x h. omega (arith, h)) low) in
    shown_are r s (held_after r s held (idr_access n p)) (n + 1) (placed key sh) ps more
    ∙ ap (λ (xs : List Planes). xs ++ shown_of r s ps) (ap (λ ys. pictures_in ys) (placed_last key sh low) ∙ pictures-append sh (key ∷ []))
    ∙ append_assoc (pictures_in sh) (pic ∷ []) (shown_of r s ps)

read_are : {S : Type 0} (n : ℕ) (ps : List (List (CodedSlice S))) → slices_of_accesses (idr_accesses n ps) ≡ slices_of_each ps
unfolding idr_accesses
read_are n [] = refl
read_are n (p ∷ ps) = ap (λ rest. slices_in p ∷ rest) (read_are (n + 1) ps)

pub idr_streams_decode : {S : Type 0} (r : Reading S) (s : SeqHead) (flags : Bool × Bool) (ps : List (List (CodedSlice S))) → IsSeqHead s → s.level < 256 → AllCover r s flags None ps
    → decode_by r (stream_of s flags ps) ≡ Some (shown_of r s ps)
idr_streams_decode r s flags ps is level cover =
    ap (λ bytes. decode_by r bytes) (stream_written s flags 0 ps)
    ∙ streams_decode r s flags (idr_accesses 0 ps) is level (all_are r s flags [] None 0 ps cover) (all_follow false 0 0 0 ps) (all_distinct 0 ps) (all_others r s flags None 0 ps is cover)
    ∙ ap (λ qs. Some qs) (shown_are r s [] 0 [] ps tt)

pub idr_streams_are_read : {S : Type 0} (r : Reading S) (s : SeqHead) (flags : Bool × Bool) (ps : List (List (CodedSlice S))) → IsSeqHead s → s.level < 256 → AllCover r s flags None ps
    → read_by r (stream_of s flags ps) ≡ Some (slices_of_each ps)
idr_streams_are_read r s flags ps is level cover =
    ap (λ bytes. read_by r bytes) (stream_written s flags 0 ps)
    ∙ streams_are_read r s flags (idr_accesses 0 ps) is level (all_are r s flags [] None 0 ps cover) (all_follow false 0 0 0 ps) (all_distinct 0 ps) (all_others r s flags None 0 ps is cover)
    ∙ ap (λ qs. Some qs) (read_are 0 ps)
