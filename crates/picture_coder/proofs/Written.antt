-- Slices written one behind another.
use Rattle.std.proofs.Common.{◌≡◌, ◌≤◌, ◌<◌, ◌+◌, ◌-◌, ◌*◌, ◌%◌, ◌++◌, ℕ, zero, suc, Bool, false, List, [], ◌∷◌, length, take, map, refl, sym, ap, ap₂, subst, ◌∙◌, arith, append_assoc, append-nil, length-append}
use Rattle.std.specs.List.{All}
use Rattle.std.proofs.lemmas.List.{map-append}
use Rattle.std.proofs.lemmas.List.Elements.{All-nil, All-append}
use Rattle.enc_tables.specs.declared.records.MbRecord.{MbRecord}
use Rattle.enc_tables.specs.declared.records.PlanStep.{PlanStep}
use Rattle.bit_strings.specs.BitText.{BitText}
use Rattle.nal_writer.specs.Runs.{IsLonger}
use Rattle.spec_bits.specs.Bits.{bits_of_bytes, bytes_of_bits}
use Rattle.spec_bits.specs.Golomb.{align_bits}
use Rattle.spec_bits.specs.Units.{unit_bytes, escape, start_code, header_byte, EndsWell, written}
use Rattle.spec_bits.proofs.Digits.{bits_of_bytes-append, length-bits_of_bytes, length-bytes_of_bits}
use Rattle.spec_bits.proofs.Codes.{align_whole}
use Rattle.spec_bits.proofs.Payloads.{length-escape_least}
use Rattle.spec_film.specs.Films.{Planes}
use Rattle.spec_lists.specs.Heads.{ref_idc_of}
use Rattle.spec_slice_payload.specs.Layer.{Format, Slice}
use Rattle.spec_slice_payload.specs.Writing.{layer_bits, layer_payload}
use Rattle.spec_reconstruction.specs.Inter.{Sources}
use Rattle.spec_reconstruction.specs.Records.{slice_built}
use Rattle.spec_decoder.specs.Frames.{blank_planes, sources_by, slices_made}
use Rattle.spec_decoder.specs.Macroblocks.{Slice as Read}
use Rattle.spec_decoder.proofs.OfRecords.{built_last, records_last}
use Rattle.spec_pictures.specs.Coded.{CodedSlice}
use Rattle.spec_pictures.specs.Accesses.{slice_nal}
use Rattle.spec_tasks.specs.Choosing.{sources_of}
use Rattle.spec_encoding.specs.Frames.{slices_built, all_records}
use Rattle.spec_encoding.specs.Encoding.{with_payload}
use Rattle.spec_encoding.proofs.Ends.{payload_ends}
use Rattle.spec_encoding.proofs.Numbers.{row_none}
use Rattle.spec_film_coder.specs.Pictures.{first_of, slices_to}
use Rattle.ref_lists.specs.Named.{named}
use Rattle.slice_coder.specs.Left.{padded}
use Rattle.picture_coder.specs.declared.coding.Coding.{Coding}
use Rattle.picture_coder.specs.declared.job.Job.{Job}
use Rattle.picture_coder.specs.Jobs.{IsJob, held_in, head_in}
use Rattle.picture_coder.specs.Units.{units_of}
use Rattle.picture_coder.specs.Pictures.{shape_of, format_for, slice_at, first_slices, built_to, unit_of, kind_number, SliceCoded, IsQuantised, SlicesCoded, still_long, units_to}
use Rattle.picture_coder.proofs.JobHeads.{head_lists}

-- ---- the text of a payload

pub text_whole : (bits : List Bool) → length (padded bits) % 8 ≡ 0
text_whole bits = ap (λ (n : ℕ). n % 8) (length-append bits (align_bits (length bits))) ∙ align_whole (length bits)

pub text_is_payload : (f : Format) (s : Slice) → bytes_of_bits (padded (layer_bits f s)) ≡ layer_payload f s
unfolding layer_payload
text_is_payload f s = refl

pub text_ends : (f : Format) (s : Slice) → EndsWell (bytes_of_bits (padded (layer_bits f s)))
text_ends f s = subst (λ (bytes : List ℕ). EndsWell bytes) (sym (text_is_payload f s)) (payload_ends f s)

payload_long : (long : Bool) (ref_idc kind : ℕ) (payload : List ℕ) → length payload ≤ length (unit_bytes long ref_idc kind payload)
unfolding unit_bytes
payload_long long ref_idc kind payload = by (start_code long) (length-escape_least 0 payload)
  where
    by : (code : List ℕ) → length payload ≤ length (escape 0 payload) → length payload ≤ length (code ++ (header_byte ref_idc kind ∷ escape 0 payload))
    by code h = omega (arith, length-append code (header_byte ref_idc kind ∷ escape 0 payload))

-- the bytes of a slice's unit
abbrev unit_in : Coding → Job → Bool → Slice → List ℕ
unit_in c j long s = unit_bytes long (ref_idc_of j.step.idr j.step.kind) (kind_number j.step.idr) (layer_payload (format_for c j) s)

-- a unit is no shorter than its payload
pub unit_long : (c : Coding) (j : Job) (long : Bool) (s : Slice) → length (padded (layer_bits (format_for c j) s)) ≤ length (unit_of c j long s)
unit_long c j long s =
    let a = length-bits_of_bytes (unit_in c j long s) in
    let b = payload_long long (ref_idc_of j.step.idr j.step.kind) (kind_number j.step.idr) (layer_payload (format_for c j) s) in
    let d = length-bytes_of_bits (padded (layer_bits (format_for c j) s)) (text_whole (layer_bits (format_for c j) s)) in
    let e = ap (λ (bytes : List ℕ). length bytes) (text_is_payload (format_for c j) s) in
    omega arith

-- ---- one slice more

pub more_slices : (c : Coding) (j : Job) (k : ℕ) → first_slices c j (k + 1) ≡ first_slices c j k ++ (slice_at c j k (built_to c j k) ∷ [])
unfolding slices_to
more_slices c j k = let e : k + 1 ≡ suc k = omega arith in ap (λ (n : ℕ). first_slices c j n) e

pub no_slices : (c : Coding) (j : Job) → first_slices c j 0 ≡ []
unfolding slices_to
no_slices c j = refl

more_bytes : (long : Bool) (st : PlanStep) (cs : List (CodedSlice Read)) (x : CodedSlice Read) (next : Bool)
    → (next ≡ elim cs [ [] ↦ long | y ∷ ys ↦ false ]) → units_of long st (cs ++ x ∷ []) ≡ units_of long st cs ++ written (next, slice_nal st.idr st.kind x)
unfolding units_of
more_bytes long st [] x next e = append-nil (written (long, slice_nal st.idr st.kind x)) ∙ ap (λ (b : Bool). written (b, slice_nal st.idr st.kind x)) (sym e)
more_bytes long st (y ∷ cs) x next e =
    ap (λ (t : List ℕ). written (long, slice_nal st.idr st.kind y) ++ t) (more_bytes false st cs x false (never cs) ∙ ap (λ (b : Bool). units_of false st cs ++ written (b, slice_nal st.idr st.kind x)) (sym e))
    ∙ sym (append_assoc (written (long, slice_nal st.idr st.kind y)) (units_of false st cs) (written (next, slice_nal st.idr st.kind x)))
  where
    never : (ys : List (CodedSlice Read)) → false ≡ elim ys [ [] ↦ false | z ∷ zs ↦ false ]
    never [] = refl
    never (z ∷ zs) = refl

more_units : (c : Coding) (j : Job) (long : Bool) (ss : List Slice) (s : Slice)
    → units_of long j.step (map (with_payload (format_for c j)) (ss ++ s ∷ [])) ≡ units_of long j.step (map (with_payload (format_for c j)) ss) ++ written (still_long long ss, slice_nal j.step.idr j.step.kind (with_payload (format_for c j) s))
more_units c j long ss s =
    ap (λ (cs : List (CodedSlice Read)). units_of long j.step cs) (map-append (with_payload (format_for c j)) ss (s ∷ []))
    ∙ more_bytes long j.step (map (with_payload (format_for c j)) ss) (with_payload (format_for c j) s) (still_long long ss) (same ss)
  where
    same : (ss : List Slice) → still_long long ss ≡ elim (map (with_payload (format_for c j)) ss) [ [] ↦ long | y ∷ ys ↦ false ]
    same [] = refl
    same (x ∷ xs) = refl

-- the first slice of a picture is behind nothing
pub none_coded : (c : Coding) (j : Job) (now : Planes) (records : List MbRecord) → now ≡ blank_planes c.across c.down → SlicesCoded c j 0 now records
unfolding slices_to slices_made
none_coded c j now records e = record {
  planes = e;
  records_are = ap (λ (n : ℕ). take n records) (ap (λ (n : ℕ). n * c.across) (row_none c.down c.slices) ∙ no_times c.across);
  quantised = All-nil IsQuantised;
}
  where
    no_times : (n : ℕ) → 0 * n ≡ 0
    no_times n = omega arith

-- what a slice with the job's lists refers to
same_sources : (c : Coding) (j : Job) (k : ℕ) → IsJob c.across c.down j → sources_of (named j.lists.now) ≡ sources_by (head_in j c.qp (first_of (shape_of c j) k)) (held_in j)
same_sources c j k is = ap sources_of (sym (head_lists c.across c.down j c.qp (first_of (shape_of c j) k) is))

pub one_more : (c : Coding) (j : Job) (k : ℕ) (old new : Planes) (was now : List MbRecord) → IsJob c.across c.down j → SlicesCoded c j k old was → SliceCoded c j (slice_at c j k old) k old new was now → All IsQuantised (slice_at c j k old).records
    → SlicesCoded c j (k + 1) new now
one_more c j k old new was now is before one small =
    let built : Planes = built_to c j k in
    let s : Slice = slice_at c j k built in
    let more = more_slices c j k in record {
      planes =
          one.planes
          ∙ ap (λ (p : Planes). slice_built c.across (sources_of (named j.lists.now)) (slice_at c j k p).head.first_mb (slice_at c j k p).records p) before.planes
          ∙ ap (λ (o : Sources). slice_built c.across o s.head.first_mb s.records built) (same_sources c j k is)
          ∙ sym (built_last c.across (held_in j) (first_slices c j k) s (blank_planes c.across c.down))
          ∙ ap (λ (ss : List Slice). slices_built c.across (held_in j) ss (blank_planes c.across c.down)) (sym more);
      records_are =
          one.records
          ∙ ap₂ (λ (t : List MbRecord) (p : Planes). t ++ (slice_at c j k p).records) before.records_are before.planes
          ∙ sym (records_last (first_slices c j k) s)
          ∙ ap (λ (ss : List Slice). all_records ss) (sym more);
      quantised =
          subst (λ (rs : List MbRecord). All IsQuantised rs) (sym (ap (λ (ss : List Slice). all_records ss) more ∙ records_last (first_slices c j k) s))
          (All-append IsQuantised (all_records (first_slices c j k)) s.records before.quantised (subst (λ (p : Planes). All IsQuantised (slice_at c j k p).records) before.planes small));
    }

-- the units of one slice more
pub bits_more : (c : Coding) (j : Job) (long next : Bool) (k : ℕ) (old : Planes) → old ≡ built_to c j k → next ≡ still_long long (first_slices c j k)
    → units_to c j long k ++ unit_of c j next (slice_at c j k old) ≡ units_to c j long (k + 1)
bits_more c j long next k old e n =
    let built : Planes = built_to c j k in
    let before : List ℕ = units_of long j.step (map (with_payload (format_for c j)) (first_slices c j k)) in
    ap₂ (λ (b : Bool) (p : Planes). units_to c j long k ++ unit_of c j b (slice_at c j k p)) n e
    ∙ sym (bits_of_bytes-append before (unit_in c j (still_long long (first_slices c j k)) (slice_at c j k built)))
    ∙ ap (λ (t : List ℕ). bits_of_bytes t) (sym (more_units c j long (first_slices c j k) (slice_at c j k built)))
    ∙ ap (λ (ss : List Slice). bits_of_bytes (units_of long j.step (map (with_payload (format_for c j)) ss))) (sym (more_slices c j k))

-- the unit of the next slice stands behind the units before it
pub units_more : (c : Coding) (j : Job) (long next : Bool) (k : ℕ) (old : Planes) (start : BitText) (was : BitText) → old ≡ built_to c j k → next ≡ still_long long (first_slices c j k)
    → was ≡ record start { text = start.text ++ units_to c j long k }
    → record was { text = was.text ++ unit_of c j next (slice_at c j k old) } ≡ record start { text = start.text ++ units_to c j long (k + 1) }
units_more c j long next k old start was e n w =
    ap (λ (b : BitText). record b { text = b.text ++ unit_of c j next (slice_at c j k old) }) w
    ∙ ap (λ (t : List Bool). record start { text = t }) (
    append_assoc start.text (units_to c j long k) (unit_of c j next (slice_at c j k old))
    ∙ ap (λ (t : List Bool). start.text ++ t) (bits_more c j long next k old e n))

-- a start code of four bytes comes first alone
pub then_short : (c : Coding) (j : Job) (long : Bool) (k : ℕ) → false ≡ still_long long (first_slices c j (k + 1))
then_short c j long k = sym (ap (λ (ss : List Slice). still_long long ss) (more_slices c j k) ∙ behind (first_slices c j k) (slice_at c j k (built_to c j k)))
  where
    behind : (ss : List Slice) (s : Slice) → still_long long (ss ++ s ∷ []) ≡ false
    behind [] s = refl
    behind (x ∷ xs) s = refl

-- units of more slices are longer
one_longer : (c : Coding) (j : Job) (long : Bool) (k : ℕ) → length (units_to c j long k) ≤ length (units_to c j long (k + 1))
one_longer c j long k =
    let u : List Bool = unit_of c j (still_long long (first_slices c j k)) (slice_at c j k (built_to c j k)) in
    let same = ap (λ (t : List Bool). length t) (bits_more c j long (still_long long (first_slices c j k)) k (built_to c j k) refl refl) in
    let sum = length-append (units_to c j long k) u in
    omega (arith, same, sum)

longer_by : (c : Coding) (j : Job) (long : Bool) (k n : ℕ) → length (units_to c j long k) ≤ length (units_to c j long (k + n))
longer_by c j long k zero = let e : k + 0 ≡ k = omega arith in let h = ap (λ (m : ℕ). length (units_to c j long m)) e in omega (arith, h)
longer_by c j long k (suc n) =
    let e : k + suc n ≡ k + n + 1 = omega arith in
    let h = ap (λ (m : ℕ). length (units_to c j long m)) e in
    let g = longer_by c j long k n in
    let more = one_longer c j long (k + n) in
    omega (arith, h, g, more)

pub units_longer : (c : Coding) (j : Job) (long : Bool) (k n : ℕ) → k ≤ n → length (units_to c j long k) ≤ length (units_to c j long n)
units_longer c j long k n h = let e : k + (n - k) ≡ n = omega arith in subst (λ (m : ℕ). length (units_to c j long k) ≤ length (units_to c j long m)) e (longer_by c j long k (n - k))

-- units are whole bytes
pub units_whole : (c : Coding) (j : Job) (long : Bool) (k : ℕ) → length (units_to c j long k) % 8 ≡ 0
units_whole c j long k = ap (λ (n : ℕ). n % 8) (length-bits_of_bytes bytes) ∙ eights (length bytes)
  where
    bytes : List ℕ
    bytes = units_of long j.step (map (with_payload (format_for c j)) (first_slices c j k))

    eights : (n : ℕ) → (8 * n) % 8 ≡ 0
    eights n = omega arith

-- ---- the loop over slices

-- no unit is there at first
pub no_bits : (c : Coding) (j : Job) (long : Bool) → units_to c j long 0 ≡ []
unfolding slices_to units_of bits_of_bytes
no_bits c j long = refl

pub none_written : (c : Coding) (j : Job) (long : Bool) (start : BitText) → start ≡ record start { text = start.text ++ units_to c j long 0 }
none_written c j long start = ap (λ (t : List Bool). record start { text = t }) (sym (append-nil start.text) ∙ ap (λ (t : List Bool). start.text ++ t) (sym (no_bits c j long)))

pub long_first : (c : Coding) (j : Job) (long : Bool) → long ≡ still_long long (first_slices c j 0)
unfolding slices_to
long_first c j long = refl

-- the room ends in the unit of a slice
pub stopped : (c : Coding) (j : Job) (long next : Bool) (k : ℕ) (old : Planes) (start was new : BitText) → k < c.slices → old ≡ built_to c j k
    → next ≡ still_long long (first_slices c j k) → was ≡ record start { text = start.text ++ units_to c j long k }
    → (was.room < length was.text + length (unit_of c j next (slice_at c j k old))) × (new ≡ was)
    → (start.room < length start.text + length (units_to c j long c.slices)) × IsLonger start new
stopped c j long next k old start was new few e n w full =
    let u : List Bool = unit_of c j next (slice_at c j k old) in
    let more = units_more c j long next k old start was e n w in
    let sum = ap (λ (b : BitText). length b.text) more in
    let left = length-append was.text u in
    let right = length-append start.text (units_to c j long (k + 1)) in
    let least = units_longer c j long (k + 1) c.slices (omega arith) in
    let room = ap (λ (b : BitText). b.room) w in
    (omega (arith, full.0, sum, left, right, least, room), record { bits = units_to c j long k; same = full.1 ∙ w })

pub whole_still : (c : Coding) (j : Job) (long : Bool) (k : ℕ) (start was : BitText) → was ≡ record start { text = start.text ++ units_to c j long k } → length start.text % 8 ≡ 0 → length was.text % 8 ≡ 0
whole_still c j long k start was w whole =
    let sum = ap (λ (b : BitText). length b.text) w in
    let parts = length-append start.text (units_to c j long k) in
    let units = units_whole c j long k in
    omega (arith, sum, parts, units, whole)

pub fits_more : (old new : BitText) (u : List Bool) → length old.text + length u ≤ old.room → new ≡ record old { text = old.text ++ u } → length new.text ≤ new.room
fits_more old new u h e = subst (λ (b : BitText). length b.text ≤ b.room) (sym e) (by (length-append old.text u))
  where
    by : length (old.text ++ u) ≡ length old.text + length u → length (old.text ++ u) ≤ old.room
    by s = omega (arith, s, h)
