-- How long the units of the coarsest coding are.
use Rattle.std.proofs.Common.{◌≡◌, ◌≤◌, ◌<◌, ◌+◌, ◌-◌, ◌*◌, ◌%◌, ◌++◌, ℕ, Bool, true, false, List, [], ◌∷◌, length, refl, sym, ap, subst, ◌∙◌, arith, length-append}
use Rattle.std.specs.Prelude.{Result, Ok, Err, is_err}
use Rattle.enc_tables.specs.declared.records.MbRecord.{MbRecord}
use Rattle.bit_strings.specs.BitText.{BitText}
use Rattle.spec_bits.specs.Bits.{bytes_of_bits}
use Rattle.spec_bits.specs.Golomb.{align_bits}
use Rattle.spec_bits.specs.Units.{unit_bytes}
use Rattle.spec_bits.proofs.Digits.{length-bits_of_bytes, length-bytes_of_bits}
use Rattle.spec_bits.proofs.Payloads.{length-escape}
use Rattle.spec_film.specs.Films.{Planes}
use Rattle.spec_headers.specs.declared.heads.SliceHead.{SliceHead}
use Rattle.spec_lists.specs.Heads.{ref_idc_of}
use Rattle.spec_slice_payload.specs.Layer.{Format, Slice, facts_of}
use Rattle.spec_slice_payload.specs.Writing.{layer_bits, layer_payload}
use Rattle.spec_coded.specs.Tasks.{Task}
use Rattle.spec_coded.specs.Coarsest.{coarsest_records}
use Rattle.spec_encoding.proofs.Numbers.{row_inside}
use Rattle.std.proofs.Math.Nat.{mul-le-mul_right}
use Rattle.std.proofs.lemmas.Nat.{mul-le}
use Rattle.spec_film_coder.specs.Pictures.{first_of, first_row, count_of, task_of}
use Rattle.slice_coder.specs.Left.{padded, Leaves}
use Rattle.slice_coder.specs.Records.{records_by}
use Rattle.picture_coder.specs.declared.coding.Coding.{Coding}
use Rattle.picture_coder.specs.declared.job.Job.{Job}
use Rattle.picture_coder.specs.Jobs.{held_in, source_in, head_in}
use Rattle.picture_coder.specs.Pictures.{shape_of, format_for, slice_at, first_slices, built_to, unit_of, kind_number, still_long, units_to}
use Rattle.picture_coder.proofs.JobHeads.{head_qp}
use Rattle.picture_coder.proofs.Written.{text_is_payload, bits_more}

-- the law on coarsest slices
abbrev pub AreShort : Type 0
AreShort = (f : Format) (h : SliceHead) (t : Task) (before : Planes) (n : ℕ) → h.qp ≡ 51 → t.facts ≡ facts_of f h
    → (let bits = layer_bits f (record { head = h; records = coarsest_records t before n }) in length (bits ++ align_bits (length bits))) ≤ 128 * n + 1024

-- a slice has no more macroblocks than the picture
few_macroblocks : (c : Coding) (j : Job) (k : ℕ) → k < c.slices → count_of (shape_of c j) k ≤ c.down * c.across
few_macroblocks c j k few =
    let within = row_inside (k + 1) c.down c.slices (omega (arith, few)) in
    mul-le-mul_right {m = first_row (shape_of c j) (k + 1) - first_row (shape_of c j) k} {n = c.down} c.across (omega (arith, within))

pub slice_short : (c : Coding) (j : Job) (k : ℕ) (before : Planes) → AreShort → c.coarsest ≡ true → c.qp ≡ 51 → k < c.slices → length (padded (layer_bits (format_for c j) (slice_at c j k before))) ≤ 128 * (c.down * c.across) + 1024
slice_short c j k before law coarsest greatest few =
    let h : SliceHead = head_in j c.qp (first_of (shape_of c j) k) in
    let n : ℕ = count_of (shape_of c j) k in
    let t : Task = task_of (shape_of c j) (held_in j) (source_in j) h in
    let same : (b : Bool) → b ≡ true → records_by b t before n ≡ coarsest_records t before n = λ b e. ap (λ (x : Bool). records_by x t before n) e in
    let short = law (format_for c j) h t before n (head_qp j c.qp (first_of (shape_of c j) k) ∙ greatest) refl in
    let least : length (padded (layer_bits (format_for c j) (slice_at c j k before))) ≤ 128 * n + 1024 =
    subst (λ (rs : List MbRecord). (let s : Slice = record { head = h; records = rs } in length (padded (layer_bits (format_for c j) s)) ≤ 128 * n + 1024)) (sym (same c.coarsest coarsest)) short in
    let most = few_macroblocks c j k few in
    omega (arith, least, most)

-- so its payload fits the room
pub not_full : {E : Type 0} (answer : Result (Unit {0}) E) (room made : ℕ) (bits : List Bool) (new : BitText) → Leaves answer room made bits new → length (padded bits) ≤ room → is_err answer ≡ false
not_full (Ok a) room made bits new leaves fits = refl
not_full (Err e) room made bits new leaves fits = absurd (by (leaves.full.0 refl))
  where
    by : room < length (padded bits) → ⊥
    by h = omega (arith, h, fits)

-- ---- its unit

pub unit_bits_are : (c : Coding) (j : Job) (s : Slice) (text : List Bool) (bits : ℕ) → text ≡ padded (layer_bits (format_for c j) s)
    → ((ref_idc kind : ℕ) → bits ≡ 8 * length (unit_bytes false ref_idc kind (bytes_of_bits text))) → bits ≡ length (unit_of c j false s)
unit_bits_are c j s text bits is counts =
    let idc : ℕ = ref_idc_of j.step.idr j.step.kind in
    let kind : ℕ = kind_number j.step.idr in
    counts idc kind
    ∙ ap (λ (t : List Bool). 8 * length (unit_bytes false idc kind (bytes_of_bits t))) is
    ∙ ap (λ (bytes : List ℕ). 8 * length (unit_bytes false idc kind bytes)) (text_is_payload (format_for c j) s)
    ∙ sym (length-bits_of_bytes (unit_bytes false idc kind (layer_payload (format_for c j) s)))

unit_most : (ref_idc kind : ℕ) (payload : List ℕ) → 2 * length (unit_bytes false ref_idc kind payload) ≤ 3 * length payload + 8
unfolding unit_bytes
unit_most ref_idc kind payload =
    let most = length-escape payload in
    omega (arith, most)

pub payload_bytes : (text : List Bool) (across down : ℕ) → length text % 8 ≡ 0 → length text ≤ 128 * (down * across) + 1024 → across ≤ 256 → down ≤ 144 → length (bytes_of_bits text) ≤ 600000
payload_bytes text across down whole few wide high =
    let bytes = length-bytes_of_bits text whole in
    let most : down * across ≤ 36864 = mul-le down across 144 256 high wide in
    omega (arith, bytes, most, few)

pub unit_small : (text : List Bool) (bits : ℕ) → length (bytes_of_bits text) ≤ 600000 → ((ref_idc kind : ℕ) → bits ≡ 8 * length (unit_bytes false ref_idc kind (bytes_of_bits text))) → bits ≤ 10000000
unit_small text bits few counts =
    let same = counts 0 1 in
    let most = unit_most 0 1 (bytes_of_bits text) in
    omega (arith, same, most, few)

-- ---- their units

never_long : (ss : List Slice) → false ≡ still_long false ss
never_long [] = refl
never_long (s ∷ ss) = refl

pub one_more_unit : (c : Coding) (j : Job) (k : ℕ) (old : Planes) (total bits : ℕ) → old ≡ built_to c j k → total ≡ length (units_to c j false k) → bits ≡ length (unit_of c j false (slice_at c j k old)) → total + bits ≡ length (units_to c j false (k + 1))
one_more_unit c j k old total bits e all one =
    let sum = length-append (units_to c j false k) (unit_of c j false (slice_at c j k old)) in
    let same = ap (λ (t : List Bool). length t) (bits_more c j false false k old e (never_long (first_slices c j k))) in
    omega (arith, all, one, sum, same)
