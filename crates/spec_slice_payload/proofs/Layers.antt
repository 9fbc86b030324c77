-- A slice is read back from its payload.
use Rattle.std.proofs.Common.{◌≡◌, ℕ, zero, suc, ◌+◌, ◌-◌, ◌%◌, ◌≤◌, Bool, true, false, cond, not, ◌&&◌, List, [], ◌∷◌, ◌++◌, length, take, drop, get_or, replicate, Some, None, refl, sym, ap, ap₂, subst, ◌∙◌, arith, append_assoc}
use Rattle.std.specs.Prelude.{nat_le, option_map, option_and_then, if◌then◌else◌}
use Rattle.std.specs.List.{list_all}
use Rattle.std.proofs.lemmas.Bool.Decides.{nat_tests}
use Rattle.std.proofs.lemmas.Grind.{common_steps}
use Rattle.std.proofs.lemmas.List.{length-append, length-replicate}
use Rattle.std.proofs.Math.Seq.{get_or-append_seam}
use Rattle.enc_tables.specs.declared.records.MbRecord.{MbRecord}
use Rattle.spec_headers.specs.declared.heads.SliceHead.{SliceHead}
use Rattle.spec_bits.specs.Golomb.{align_bits, to_byte}
use Rattle.spec_headers.specs.HeadFields.{slice_head_bits, slice_fields}
use Rattle.spec_bits.specs.Fields.{fields_bits}
use Rattle.spec_bits.proofs.Digits.{bits_of_bytes-bytes_of_bits}
use Rattle.spec_cabac.specs.Law.{EndsInOne}
use Rattle.spec_cabac.proofs.Law.{code_ends}
use Rattle.spec_reading.specs.Reader.{read, Reads as ReadsHead}
use Rattle.spec_headers.specs.HeadReaders.{idr_slice, other_slice, slice_head}
use Rattle.spec_headers.specs.Heads.{idr_head, other_head, OtherFits}
use Rattle.spec_headers.proofs.OtherHeads.{reads_p, reads_b}
use Rattle.spec_lists.specs.References.{Reference}
use Rattle.spec_lists.specs.Lists.{Lists, no_lists, lists_of}
use Rattle.spec_lists.specs.Colocated.{colocated_at}
use Rattle.enc_tables.specs.declared.records.SliceKind.{SliceKind}
use Rattle.enc_tables.specs.declared.records.SliceKind.TheVariants.{I, P, B}
use Rattle.spec_headers.proofs.HeadLaws.{reads_idr_slice}
use Rattle.spec_syntax.specs.Sequences.{ReadsEach}
use Rattle.spec_slice_data.specs.Coding.{asked, slice_code, slice_string, AllGoOn, AreWritten, IsReadBack}
use Rattle.spec_slice_data.specs.Decoding.{Decoded}
use Rattle.spec_slice_data.proofs.Slices.{slice_read_back}
use Rattle.spec_intra.specs.Near.{macroblock_avail}
use Rattle.spec_slice_payload.specs.Allowed.{modes_allowed, all_allowed}
use Rattle.spec_macroblock.proofs.Reading.{reads_macroblock}
use Rattle.spec_macroblock.proofs.GoesOn.{macroblock_goes_on}
use Rattle.spec_slice_payload.specs.Layer.{Slice, Format, Colocated, near_of, view_of, states_of}
use Rattle.spec_slice_payload.specs.Reading.{macroblock_after, aligned, is_stopped, read_data, with_data, with_head, read_layer}
use Rattle.spec_slice_payload.specs.Writing.{string_after, layer_bits, layer_payload}
use Rattle.spec_slice_payload.specs.Slices.{IsIdrHead, KindFits, IsHead, AreRecords, IsSlice}

-- ---- the macroblocks

each_read : (f : Format) (c : Colocated) (h : SliceHead) (before rest : List MbRecord) → AreRecords f c h before rest → ReadsEach (macroblock_after f c h) (string_after f h) before rest
each_read f c h before [] k = tt
each_read f c h before (mb ∷ rest) k = (reads_macroblock (view_of f c h before) mb k.0.written k.0.motion, each_read f c h (before ++ mb ∷ []) rest k.1)

each_goes_on : (f : Format) (c : Colocated) (h : SliceHead) (before rest : List MbRecord) → AreRecords f c h before rest → AllGoOn (string_after f h) before rest
each_goes_on f c h before [] k = tt
each_goes_on f c h before (mb ∷ rest) k = (macroblock_goes_on (near_of f h before) mb k.0.written, each_goes_on f c h (before ++ mb ∷ []) rest k.1)

pub are_written : (f : Format) (c : Colocated) (idr : Bool) (s : Slice) → IsSlice f c idr s → AreWritten (macroblock_after f c s.head) (string_after f s.head) s.records
are_written f c idr s h = record { some = h.some; each = each_read f c s.head [] s.records h.each; go_on = each_goes_on f c s.head [] s.records h.each }

-- ---- the end

zeros_are : (n : ℕ) → list_all not (replicate n false) ≡ true
zeros_are zero = refl
zeros_are (suc n) = zeros_are n

ones_are : (n : ℕ) → list_all (λ b. b) (replicate n true) ≡ true
ones_are zero = refl
ones_are (suc n) = ones_are n

few : (n : ℕ) → n ≤ 7 → nat_le n 7 ≡ true
few n h = grind (arith, nat_tests)

three : (a b c : Bool) → a ≡ true → b ≡ true → c ≡ true → (a && b && c) ≡ true
three a b c h k l = rw (h, k, l) refl

-- the last bit of a code that ends in 1
last_bit : (code rest : List Bool) (n : ℕ) → EndsInOne code → n ≡ length code → get_or (code ++ rest) (n - 1) false ≡ true
last_bit code rest n h e =
    let long : length code ≡ length h.before + 1 = ap length h.same ∙ length-append h.before (true ∷ []) in
    let place : n - 1 ≡ length h.before = omega arith in
    let same : code ++ rest ≡ h.before ++ true ∷ rest = ap (λ xs. xs ++ rest) h.same ∙ append_assoc h.before (true ∷ []) rest in
    ap₂ (λ (xs : List Bool) m. get_or xs m false) same place ∙ get_or-append_seam h.before true rest false

-- ---- the modes

both : (a b : Bool) → a ≡ true → b ≡ true → (a && b) ≡ true
both a b h k = rw (h, k) refl

modes_are : (f : Format) (c : Colocated) (h : SliceHead) (before rest : List MbRecord) (address : ℕ) → address ≡ h.first_mb + length before → AreRecords f c h before rest → all_allowed f.across h.first_mb address rest ≡ true
unfolding all_allowed
modes_are f c h before [] address e k = refl
modes_are f c h before (mb ∷ rest) address e k =
    both _ _ (ap (λ a. modes_allowed (macroblock_avail f.across h.first_mb a) mb) e ∙ k.0.allowed)
    (modes_are f c h (before ++ mb ∷ []) rest (address + 1) (omega (arith, e, length-append before (mb ∷ []))) k.1)

-- ---- the data

data_back : (f : Format) (c : Colocated) (idr : Bool) (s : Slice) (n : ℕ) → n ≤ 7 → IsSlice f c idr s
    → read_data f c s.head (slice_code (string_after f s.head) (states_of s.head) s.records ++ replicate n false) ≡ Some s.records
unfolding read_data
data_back f c idr s n short h =
    let string = string_after f s.head in
    let states = states_of s.head in
    let code = slice_code string states s.records in
    let zeros = replicate n false in
    let back : IsReadBack (macroblock_after f c s.head) string (f.total - s.head.first_mb) states s.records zeros =
    slice_read_back (macroblock_after f c s.head) string (f.total - s.head.first_mb) states s.records zeros (omega (arith, h.fits)) (are_written f c idr s h) in
    let stop : is_stopped (code ++ zeros) back.last ≡ true = three _ _ _
    (last_bit code zeros back.last.read (code_ends (asked states (slice_string string s.records))) back.count)
    (ap (λ xs. list_all not xs) back.left ∙ zeros_are n)
    (ap (λ xs. nat_le (length xs) 7) back.left ∙ few (length zeros) (omega (arith, length-replicate n false))) in
    let allowed : all_allowed f.across s.head.first_mb s.head.first_mb s.records ≡ true = modes_are f c s.head [] s.records s.head.first_mb (omega arith) h.each in
    ap (λ o. option_and_then (λ (d : Decoded (List MbRecord)). if is_stopped (code ++ zeros) d.decoder && all_allowed f.across s.head.first_mb s.head.first_mb d.value then Some d.value else None) o) back.reads
    ∙ ap (λ b. cond b (Some s.records) None) (both _ _ stop allowed)

-- ---- the ones to the byte

aligned_back : (n : ℕ) (rest : List Bool) → length (replicate n true ++ rest) % 8 ≡ n → aligned (replicate n true ++ rest) ≡ Some rest
aligned_back n rest h =
    let long : length (replicate n true) ≡ n = length-replicate n true in
    let front : take n (replicate n true ++ rest) ≡ replicate n true = take_front n (replicate n true) rest long in
    let back : drop n (replicate n true ++ rest) ≡ rest = drop_front n (replicate n true) rest long in
    ap (λ m. cond (list_all (λ b. b) (take m (replicate n true ++ rest))) (Some (drop m (replicate n true ++ rest))) None) h
    ∙ ap₂ (λ (xs ys : List Bool). cond (list_all (λ b. b) xs) (Some ys) None) front back
    ∙ ap (λ b. cond b (Some rest) None) (ones_are n)
  where
    take_front : (n : ℕ) (xs ys : List Bool) → length xs ≡ n → take n (xs ++ ys) ≡ xs
    take_front n xs ys h = grind (arith, common_steps)

    drop_front : (n : ℕ) (xs ys : List Bool) → length xs ≡ n → drop n (xs ++ ys) ≡ ys
    drop_front n xs ys h = grind (arith, common_steps)

-- ---- the whole

other_read : (h : SliceHead) (kind : SliceKind) (refs1 : ℕ) → KindFits kind refs1 → OtherFits h.first_mb h.frame_num h.poc h.refs0 h.moved h.qp
    → (let x : SliceHead = other_head h.first_mb kind h.frame_num h.poc h.refs0 refs1 h.moved h.qp true in ReadsHead (other_slice true) (fields_bits (slice_fields x)) x)
other_read h I refs1 k fits = absurd k
other_read h P refs1 k fits = rw k (reads_p h.first_mb h.frame_num h.poc h.refs0 h.moved h.qp true fits)
other_read h B refs1 k fits = reads_b h.first_mb h.frame_num h.poc h.refs0 refs1 h.moved h.qp true fits k.0 k.1

read_head : (idr : Bool) (h : SliceHead) → IsHead idr h → ReadsHead (slice_head idr true) (fields_bits (slice_fields h)) h
read_head true h k =
    subst (λ x. ReadsHead (idr_slice true) (fields_bits (slice_fields x)) x) (sym k.same)
    (reads_idr_slice h.first_mb h.frame_num h.idr_id h.poc h.qp true k.first_mb_fits k.frame_num_fits k.idr_id_fits k.poc_fits k.qp_fits)
read_head false h k = subst (λ x. ReadsHead (other_slice true) (fields_bits (slice_fields x)) x) (sym k.same) (other_read h h.kind h.refs1 k.kind_fits k.fits)

is_set : (idr : Bool) (h : SliceHead) → IsHead idr h → h.cabac ≡ true
unfolding idr_head other_head
is_set true h k = ap (λ (x : SliceHead). x.cabac) k.same
is_set false h k = ap (λ (x : SliceHead). x.cabac) k.same

-- the bits of a header, with the ones to the byte
head_bits : (idr : Bool) (h : SliceHead) → IsHead idr h → slice_head_bits h ≡ fields_bits (slice_fields h) ++ replicate (to_byte (length (fields_bits (slice_fields h)))) true
unfolding slice_head_bits
head_bits idr h k =
    let fields = fields_bits (slice_fields h) in
    ap (λ b. cond b (fields ++ replicate (to_byte (length fields)) true) fields) (is_set idr h k)

pub layer_back : (f : Format) (idr : Bool) (held : List Reference) (lists : Lists) (s : Slice) → lists_of s.head held ≡ Some lists → IsSlice f (colocated_at lists) idr s
    → read_layer f idr held (layer_payload f s) ≡ Some s
unfolding read_layer layer_payload layer_bits align_bits
layer_back f idr held lists s listed h =
    let c : Colocated = colocated_at lists in
    let fields = fields_bits (slice_fields s.head) in
    let n = to_byte (length fields) in
    let ones = replicate n true in
    let code = slice_code (string_after f s.head) (states_of s.head) s.records in
    let bits = slice_head_bits s.head ++ code in
    let m = to_byte (length bits) in
    let zeros = replicate m false in
    let whole : length (bits ++ zeros) % 8 ≡ 0 = omega (arith, length-append bits zeros, length-replicate m false) in
    let parts : bits ++ zeros ≡ fields ++ (ones ++ (code ++ zeros)) =
    ap (λ (xs : List Bool). (xs ++ code) ++ zeros) (head_bits idr s.head h.head_fits) ∙ append_assoc (fields ++ ones) code zeros ∙ append_assoc fields ones (code ++ zeros) in
    let rest = ones ++ (code ++ zeros) in
    let even : (length fields + length rest) % 8 ≡ 0 = ap (λ k. k % 8) (sym (length-append fields rest)) ∙ ap (λ (xs : List Bool). length xs % 8) (sym parts) ∙ whole in
    let left : length rest % 8 ≡ n = omega arith in
    ap (λ (xs : List Bool). option_and_then (with_head f held) (read (slice_head idr true) xs)) (bits_of_bytes-bytes_of_bits (bits ++ zeros) whole ∙ parts)
    ∙ ap (λ o. option_and_then (with_head f held) o) ((read_head idr s.head h.head_fits).back rest)
    ∙ ap (λ o. option_and_then (λ ls. with_data f (colocated_at ls) s.head rest) o) listed
    ∙ ap (λ o. option_map (λ records. let t : Slice = record { head = s.head; records = records } in t) (option_and_then (read_data f c s.head) o)) (aligned_back n (code ++ zeros) left)
    ∙ ap (λ o. option_map (λ records. let t : Slice = record { head = s.head; records = records } in t) o) (data_back f c idr s m (omega arith) h)

-- of an IDR picture
no_lists_there : (h : SliceHead) (held : List Reference) → IsIdrHead h → lists_of h held ≡ Some no_lists
unfolding idr_head lists_of
no_lists_there h held k = ap (λ (x : SliceHead). lists_of x held) k.same

pub idr_layer_back : (f : Format) (held : List Reference) (s : Slice) → IsSlice f (colocated_at no_lists) true s → read_layer f true held (layer_payload f s) ≡ Some s
idr_layer_back f held s h = layer_back f true held no_lists s (no_lists_there s.head held h.head_fits) h
