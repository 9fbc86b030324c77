-- The units of a stream are those of its accesses.
use Rattle.std.proofs.Common.{ℕ, ◌+◌, ◌≡◌, List, [], ◌∷◌, ◌++◌, map, Bool, true, false, Some, refl, ap, ap₂, sym, ◌∙◌, lit<, lit≤, ◌⊎◌, inl, inr, arith}
use Rattle.std.specs.List.{flat_map, All, AllByRecursion}
use Rattle.std.proofs.lemmas.List.{map-append}
use Rattle.std.proofs.lemmas.Grind.{flat_map-append}
use Rattle.std.proofs.lemmas.List.Elements.{All-nil, All-cons, All-append}
use Rattle.enc_tables.specs.declared.records.PlanStep.{PlanStep}
use Rattle.enc_tables.specs.declared.records.SliceKind.{SliceKind}
use Rattle.enc_tables.specs.declared.records.SliceKind.TheVariants.{I, P, B}
use Rattle.spec_headers.specs.declared.heads.SeqHead.{SeqHead}
use Rattle.spec_headers.specs.declared.heads.SliceHead.{SliceHead}
use Rattle.spec_bits.specs.Fields.{fields_bits}
use Rattle.spec_headers.specs.HeadFields.{sequence_fields, picture_fields, sequence_payload, picture_payload}
use Rattle.spec_bits.specs.Units.{Nal, IsNal, EndsWell, written, units_of}
use Rattle.spec_bits.proofs.UnitLaws.{units_are_read_back}
use Rattle.spec_stream.proofs.Ends.{ends_in_trail}
use Rattle.spec_lists.specs.References.{Reference, kept}
use Rattle.spec_decoder.specs.Pictures.{Reading}
use Rattle.spec_pictures.specs.Coded.{CodedSlice}
use Rattle.spec_pictures.specs.Accesses.{Access, slice_nal, slice_nals, set_nals, access_nals, is_set, started, access_bytes, accesses_bytes, Covers, IsPassedOver, IsAccess, AllCoded, held_after}

unfoldable pub all_units : {S : Type 0} → SeqHead → Bool × Bool → List (Access S) → List Nal
all_units s flags accesses = flat_map (access_nals s flags) accesses

-- with their start codes
with_starts : {S : Type 0} → SeqHead → Bool × Bool → List (Access S) → List (Bool × Nal)
with_starts s flags accesses = flat_map (λ a. started (access_nals s flags a)) accesses

unstarted : (ns : List Nal) → map (λ (u : Bool × Nal). u.1) (started ns) ≡ ns
unstarted [] = refl
unstarted (n ∷ ns) = ap (λ (rest : List Nal). n ∷ rest) (by ns)
  where
    by : (ms : List Nal) → map (λ (u : Bool × Nal). u.1) (map (λ m. (is_set m, m)) ms) ≡ ms
    by [] = refl
    by (m ∷ ms) = ap (λ (rest : List Nal). m ∷ rest) (by ms)

bytes_are : {S : Type 0} (s : SeqHead) (flags : Bool × Bool) (accesses : List (Access S)) → accesses_bytes s flags accesses ≡ flat_map written (with_starts s flags accesses)
unfolding accesses_bytes access_bytes with_starts
bytes_are s flags [] = refl
bytes_are s flags (a ∷ rest) =
    ap (λ (bytes : List ℕ). flat_map written (started (access_nals s flags a)) ++ bytes) (bytes_are s flags rest)
    ∙ sym (flat_map-append written (started (access_nals s flags a)) (with_starts s flags rest))

nals_are : {S : Type 0} (s : SeqHead) (flags : Bool × Bool) (accesses : List (Access S)) → map (λ (u : Bool × Nal). u.1) (with_starts s flags accesses) ≡ all_units s flags accesses
unfolding with_starts all_units
nals_are s flags [] = refl
nals_are s flags (a ∷ rest) =
    map-append (λ (u : Bool × Nal). u.1) (started (access_nals s flags a)) (with_starts s flags rest)
    ∙ ap₂ (λ (x y : List Nal). x ++ y) (unstarted (access_nals s flags a)) (nals_are s flags rest)

-- ---- they are units that can be written

AreNals : List Nal → Type 0
AreNals ns = AllByRecursion IsNal ns

nals-append : (ms ns : List Nal) → AllByRecursion IsNal ms → AllByRecursion IsNal ns → AllByRecursion IsNal (ms ++ ns)
nals-append [] ns h k = k
nals-append (m ∷ ms) ns h k = (h.0, nals-append ms ns h.1 k)

sets_are : (s : SeqHead) (flags : Bool × Bool) (idr : Bool) → AllByRecursion IsNal (set_nals s flags idr)
unfolding sequence_payload picture_payload
sets_are s flags true = (
  record { ref_idc = lit< tt; kind_from = lit< tt; kind_to = lit< tt; ends = ends_in_trail (fields_bits (sequence_fields s)) },
  (record { ref_idc = lit< tt; kind_from = lit< tt; kind_to = lit< tt; ends = ends_in_trail (fields_bits (picture_fields flags.0 flags.1)) }, tt),
)
sets_are s flags false = tt

passed_is : (n : Nal) → IsPassedOver n → IsNal n
passed_is n p = by p.kind
  where
    by : (n.kind ≡ 6) ⊎ (n.kind ≡ 12) → IsNal n
    by (inl e) = record { ref_idc = omega (arith, p.ref_idc); kind_from = omega (arith, e); kind_to = omega (arith, e); ends = p.ends }
    by (inr e) = record { ref_idc = omega (arith, p.ref_idc); kind_from = omega (arith, e); kind_to = omega (arith, e); ends = p.ends }

passed_are : (ns : List Nal) → AllByRecursion IsPassedOver ns → AllByRecursion IsNal ns
passed_are [] h = tt
passed_are (n ∷ ns) h = (passed_is n h.0, passed_are ns h.1)

slice_is : {S : Type 0} (idr : Bool) (kind : SliceKind) (c : CodedSlice S) → EndsWell c.payload → IsNal (slice_nal idr kind c)
slice_is true I c ends = record { ref_idc = lit< tt; kind_from = lit< tt; kind_to = lit< tt; ends = ends }
slice_is true P c ends = record { ref_idc = lit< tt; kind_from = lit< tt; kind_to = lit< tt; ends = ends }
slice_is true B c ends = record { ref_idc = lit≤ tt; kind_from = lit< tt; kind_to = lit< tt; ends = ends }
slice_is false I c ends = record { ref_idc = lit< tt; kind_from = lit< tt; kind_to = lit< tt; ends = ends }
slice_is false P c ends = record { ref_idc = lit< tt; kind_from = lit< tt; kind_to = lit< tt; ends = ends }
slice_is false B c ends = record { ref_idc = lit≤ tt; kind_from = lit< tt; kind_to = lit< tt; ends = ends }

slices_are : {S : Type 0} (r : Reading S) (s : SeqHead) (flags : Bool × Bool) (held : List Reference) (lead : SliceHead) (st : PlanStep) (before : ℕ) (cs : List (CodedSlice S)) → Covers r s flags held lead st before cs → AllByRecursion IsNal (slice_nals st cs)
slices_are r s flags held lead st before [] covers = tt
slices_are r s flags held lead st before (c ∷ cs) covers = (slice_is st.idr st.kind c covers.0.ends, slices_are r s flags held lead st (before + r.count c.slice) cs covers.1)

access_is : {S : Type 0} (r : Reading S) (s : SeqHead) (flags : Bool × Bool) (held : List Reference) (a : Access S) → IsAccess r s flags held a → AllByRecursion IsNal (access_nals s flags a)
unfolding access_nals
access_is r s flags held a is =
    nals-append (set_nals s flags a.step.idr) _ (sets_are s flags a.step.idr)
    (nals-append a.before _ (passed_are a.before is.before)
    (nals-append (slice_nals a.step a.slices) a.behind (slices_are r s flags held is.lead a.step 0 a.slices is.covers) (passed_are a.behind is.behind)))

P0 : Bool × Nal → Type 0
P0 u = IsNal u.1

started_are : (ns : List Nal) → AllByRecursion IsNal ns → All P0 (started ns)
unfolding P0
started_are [] h = All-nil P0
started_are (n ∷ ns) h = All-cons P0 (true, n) (map (λ m. (is_set m, m)) ns) h.0 (by ns h.1)
  where
    by : (ms : List Nal) → AllByRecursion IsNal ms → All P0 (map (λ m. (is_set m, m)) ms)
    by [] h = All-nil P0
    by (m ∷ ms) h = All-cons P0 (is_set m, m) (map (λ m. (is_set m, m)) ms) h.0 (by ms h.1)

all_are : {S : Type 0} (r : Reading S) (s : SeqHead) (flags : Bool × Bool) (held : List Reference) (accesses : List (Access S)) → AllCoded r s flags held accesses → All P0 (with_starts s flags accesses)
unfolding with_starts
all_are r s flags held [] coded = All-nil P0
all_are r s flags held (a ∷ rest) coded =
    All-append P0 (started (access_nals s flags a)) (with_starts s flags rest) (started_are (access_nals s flags a) (access_is r s flags (kept a.step.idr held) a coded.0))
    (all_are r s flags (held_after r s held a) rest coded.1)

pub units_are : {S : Type 0} (r : Reading S) (s : SeqHead) (flags : Bool × Bool) (held : List Reference) (accesses : List (Access S)) → AllCoded r s flags held accesses → units_of (accesses_bytes s flags accesses) ≡ Some (all_units s flags accesses)
unfolding P0
units_are r s flags held accesses coded =
    ap (λ (bytes : List ℕ). units_of bytes) (bytes_are s flags accesses)
    ∙ units_are_read_back (with_starts s flags accesses) (all_are r s flags held accesses coded)
    ∙ ap (λ (ns : List Nal). Some ns) (nals_are s flags accesses)
