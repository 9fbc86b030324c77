-- Slices of coarsest macroblocks are short.
use Rattle.std.proofs.Common.{ℕ, zero, suc, ◌≡◌, ◌+◌, ◌*◌, ◌≤◌, ◌==◌, Bool, List, [], ◌∷◌, ◌++◌, length, refl, subst, arith, length-append}
use Rattle.std.specs.List.{AllByRecursion}
use Rattle.enc_tables.specs.declared.records.MbRecord.{MbRecord}
use Rattle.enc_tables.specs.declared.records.SliceKind.{SliceKind}
use Rattle.spec_bits.specs.Golomb.{align_bits}
use Rattle.spec_bits.proofs.Codes.{length-align_bits}
use Rattle.spec_film.specs.Films.{Planes}
use Rattle.spec_headers.specs.declared.heads.SliceHead.{SliceHead}
use Rattle.spec_headers.specs.HeadFields.{slice_head_bits}
use Rattle.spec_partitions.specs.Near.{SliceFacts, near_in, view_in, last_qp}
use Rattle.spec_syntax.specs.Syntax.{at}
use Rattle.spec_syntax.specs.Elements.{end_of_slice}
use Rattle.spec_syntax.specs.Sequences.{sequence_string}
use Rattle.spec_slice_data.specs.Coding.{ended_string, strings_of, slice_string, slice_code}
use Rattle.spec_slice_payload.specs.Layer.{Format, facts_of, states_of}
use Rattle.spec_slice_payload.specs.Writing.{string_after, layer_bits}
use Rattle.spec_coded.specs.Tasks.{Task, records_in_order, built_by}
use Rattle.spec_coded.specs.Coarsest.{coarsest_after, coarsest_records}
use Rattle.spec_coarsest.proofs.Heads.{head_most}
use Rattle.spec_coarsest.proofs.Codes.{code_most}
use Rattle.spec_coarsest.proofs.Strings.{IsShort, coarsest_short, short_bins}

-- ---- the records

abbrev AreShort : SliceKind → List MbRecord → Type 0
AreShort kind records = AllByRecursion (IsShort kind) records

short_then : (kind : SliceKind) (xs : List MbRecord) (y : MbRecord) → AreShort kind xs → IsShort kind y → AreShort kind (xs ++ y ∷ [])
short_then kind [] y h k = (k, tt)
short_then kind (x ∷ xs) y h k = (h.0, short_then kind xs y h.1 k)

short_after : (t : Task) (before : List MbRecord) (p : Planes) → IsShort t.facts.kind (coarsest_after t before p)
unfolding coarsest_after
short_after t before p = coarsest_short t.facts.kind (view_in t.facts t.colocated before)

short_in_order : (t : Task) (built : List MbRecord → Planes) (n : ℕ) → AreShort t.facts.kind (records_in_order (coarsest_after t) built n)
unfolding records_in_order
short_in_order t built zero = tt
short_in_order t built (suc n) =
    let before = records_in_order (coarsest_after t) built n in
    short_then t.facts.kind before (coarsest_after t before (built before)) (short_in_order t built n) (short_after t before (built before))

length_in_order : (next : List MbRecord → Planes → MbRecord) (built : List MbRecord → Planes) (n : ℕ) → length (records_in_order next built n) ≡ n
unfolding records_in_order
length_in_order next built zero = refl
length_in_order next built (suc n) =
    let before = records_in_order next built n in omega (arith, length-append before (next before (built before) ∷ []), length_in_order next built n)

-- ---- their bins

qp_kept : (kind : SliceKind) (qp : ℕ) (records : List MbRecord) → qp ≡ 51 → AreShort kind records → last_qp qp records ≡ 51
unfolding last_qp
qp_kept kind qp [] e h = e
qp_kept kind qp (mb ∷ records) e h = qp_kept kind mb.qp records (h.0.qp) h.1

string_short : (f : Format) (h : SliceHead) (before : List MbRecord) (mb : MbRecord) → h.qp ≡ 51 → AreShort h.kind before → IsShort h.kind mb → length (string_after f h before mb) ≤ 9
unfolding near_in
string_short f h before mb e b k = short_bins h.kind mb (near_in (facts_of f h) before) k refl (qp_kept h.kind h.qp before e b)

-- each with its end_of_slice_flag
strings_short : (f : Format) (h : SliceHead) (n : ℕ) (before records : List MbRecord) → h.qp ≡ 51 → AreShort h.kind before → AreShort h.kind records
    → length (sequence_string (ended_string (string_after f h) n) before records) ≤ 10 * length records
unfolding sequence_string
strings_short f h n before [] e b k = omega arith
strings_short f h n before (mb ∷ records) e b k =
    let bins = string_after f h before mb in
    let flag = at end_of_slice (length before + 1 == n) ∷ [] in
    let rest = sequence_string (ended_string (string_after f h) n) (before ++ mb ∷ []) records in
    omega (arith, length-append bins flag, length-append (bins ++ flag) rest, string_short f h before mb e b (k.0), strings_short f h n (before ++ mb ∷ []) records e (short_then h.kind before mb b (k.0)) k.1)

-- ---- slices

layer_short : (f : Format) (h : SliceHead) (records : List MbRecord) → h.qp ≡ 51 → AreShort h.kind records → length (layer_bits f (record { head = h; records = records })) ≤ 70 * length records + 851
unfolding layer_bits slice_string strings_of
layer_short f h records e k =
    let bins = sequence_string (ended_string (string_after f h) (length records)) [] records in
    omega (arith, length-append (slice_head_bits h) (slice_code (string_after f h) (states_of h) records), head_most h, code_most (states_of h) bins, strings_short f h (length records) [] records e tt k)

coarsest_most : (f : Format) (h : SliceHead) (t : Task) (before : Planes) (n : ℕ) → h.qp ≡ 51 → t.facts ≡ facts_of f h
    → length (layer_bits f (record { head = h; records = coarsest_records t before n })) ≤ 70 * n + 851
unfolding coarsest_records
coarsest_most f h t before n e s =
    let records = records_in_order (coarsest_after t) (built_by t before) n in
    let short : AreShort h.kind records = subst (λ (facts : SliceFacts). AreShort facts.kind records) s (short_in_order t (built_by t before) n) in
    omega (arith, layer_short f h records e short, length_in_order (coarsest_after t) (built_by t before) n)

pub layer_most : (f : Format) (h : SliceHead) (t : Task) (before : Planes) (n : ℕ) → h.qp ≡ 51 → t.facts ≡ facts_of f h
    → length (layer_bits f (record { head = h; records = coarsest_records t before n })) ≤ 128 * n + 1024
layer_most f h t before n e s = omega (arith, coarsest_most f h t before n e s)

-- with zeros to the byte
padded_most : (bits : List Bool) (n : ℕ) → length bits ≤ 70 * n + 851 → length (bits ++ align_bits (length bits)) ≤ 128 * n + 1024
padded_most bits n h = omega (arith, h, length-append bits (align_bits (length bits)), length-align_bits (length bits))

pub payload_most : (f : Format) (h : SliceHead) (t : Task) (before : Planes) (n : ℕ) → h.qp ≡ 51 → t.facts ≡ facts_of f h
    → (let bits = layer_bits f (record { head = h; records = coarsest_records t before n }) in length (bits ++ align_bits (length bits))) ≤ 128 * n + 1024
payload_most f h t before n e s = padded_most (layer_bits f (record { head = h; records = coarsest_records t before n })) n (coarsest_most f h t before n e s)
