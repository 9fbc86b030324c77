-- The heads are read back.
use Rattle.std.proofs.Common.{ℕ, zero, suc, ◌≡◌, ◌+◌, ◌-◌, ◌*◌, ◌/◌, ◌%◌, ◌^◌, ◌<◌, ◌≤◌, Bool, true, false, List, [], ◌∷◌, ◌++◌, None, refl, sym, ap, ap₂, subst, ◌∙◌, arith, Option, Some, lit<}
use Rattle.std.specs.Prelude.{◌==◌, ◌&&◌, nat_le, ℤ, pos, negsuc, ◌+ℤ◌, ◌-ℤ◌, if◌then◌else◌, nat_lt, IfSome}
use Rattle.std.proofs.lemmas.Bool.Decides.{nat_tests}
use Rattle.std.proofs.lemmas.Int.{ints}
use Rattle.spec_bits.specs.declared.fields.Field.{Field}
use Rattle.spec_bits.specs.declared.fields.Field.TheVariants.{U, Ue, Se}
use Rattle.spec_headers.specs.declared.heads.SeqHead.{SeqHead}
use Rattle.spec_headers.specs.declared.heads.Timing.{Timing}
use Rattle.spec_headers.specs.declared.heads.SliceHead.{SliceHead}
use Rattle.enc_tables.specs.declared.records.SliceKind.TheVariants.{I}
use Rattle.spec_bits.specs.Bits.{digit, digits}
use Rattle.spec_bits.specs.Golomb.{ue_bits, se_bits, signed_place}
use Rattle.spec_bits.specs.Fields.{fields_bits}
use Rattle.spec_headers.specs.HeadFields.{picture_fields, sequence_fields, format_fields, cropping_fields, usability_fields, padding, place_fields, list_fields, marking_fields, init_fields, slice_fields, buffer_fields}
use Rattle.spec_basics.specs.Sizes.{in_macroblocks}
use Rattle.spec_headers.specs.Allowed.{IsSeqHead, IsTiming}
use Rattle.spec_bits.proofs.FieldLists.{fields_bits-append}
use Rattle.spec_reading.specs.Reader.{Reader, done, ◌>>=◌, u, ue, se, only, fixed, flag, Reads}
use Rattle.spec_headers.specs.HeadReaders.{picture, cropping_by, cropping, sequence, quantiser, idr_slice, clock, nal_hrd, restriction, usability_by, usability}
use Rattle.spec_headers.specs.Heads.{idr_head}
use Rattle.spec_reading.proofs.Laws.{reads_then, reads_done, reads_u, reads_ue, reads_se, reads_fixed, reads_flag, reads_map}

-- one field more in front
pub number : {B : Type 0} (n v : ℕ) (g : ℕ → Reader B) (fields : List Field) (b : B) → v < 2 ^ n → Reads (g v) (fields_bits fields) b → Reads (u n >>= g) (fields_bits (U n v ∷ fields)) b
unfolding fields_bits
number n v g fields b h k = reads_then (u n) g (digits n v) (fields_bits fields) v b (reads_u n v h) k

pub code : {B : Type 0} (v : ℕ) (g : ℕ → Reader B) (fields : List Field) (b : B) → v < 2 ^ 32 - 1 → Reads (g v) (fields_bits fields) b → Reads (ue >>= g) (fields_bits (Ue v ∷ fields)) b
unfolding fields_bits
code v g fields b h k = reads_then ue g (ue_bits v) (fields_bits fields) v b (reads_ue v h) k

pub one_number : {B : Type 0} (n v : ℕ) (g : Unit {0} → Reader B) (fields : List Field) (b : B) → v < 2 ^ n → Reads (g tt) (fields_bits fields) b → Reads (fixed (u n) v >>= g) (fields_bits (U n v ∷ fields)) b
unfolding fields_bits
one_number n v g fields b h k = reads_then (fixed (u n) v) g (digits n v) (fields_bits fields) tt b (reads_fixed (u n) v (digits n v) (reads_u n v h)) k

pub one_code : {B : Type 0} (v : ℕ) (g : Unit {0} → Reader B) (fields : List Field) (b : B) → v < 2 ^ 32 - 1 → Reads (g tt) (fields_bits fields) b → Reads (fixed ue v >>= g) (fields_bits (Ue v ∷ fields)) b
unfolding fields_bits
one_code v g fields b h k = reads_then (fixed ue v) g (ue_bits v) (fields_bits fields) tt b (reads_fixed ue v (ue_bits v) (reads_ue v h)) k

signed_zero : {B : Type 0} (g : Unit {0} → Reader B) (fields : List Field) (b : B) → Reads (g tt) (fields_bits fields) b → Reads (fixed ue 0 >>= g) (fields_bits (Se (pos 0) ∷ fields)) b
unfolding fields_bits se_bits
signed_zero g fields b k = reads_then (fixed ue 0) g (ue_bits 0) (fields_bits fields) tt b (reads_fixed ue 0 (ue_bits 0) (reads_ue 0 (omega arith))) k

pub one_flag : {B : Type 0} (v : Bool) (g : Bool → Reader B) (fields : List Field) (b : B) → Reads (g v) (fields_bits fields) b → Reads (flag >>= g) (fields_bits (U 1 (digit v) ∷ fields)) b
unfolding fields_bits
one_flag v g fields b k = reads_then flag g (digits 1 (digit v)) (fields_bits fields) v b (reads_flag v) k

pub over : {B : Type 0} (b : B) → Reads (done b) (fields_bits []) b
unfolding fields_bits
over b = reads_done b

pub reads_picture : (entropy transform8 : Bool) → Reads picture (fields_bits (picture_fields entropy transform8)) (entropy, transform8)
unfolding picture picture_fields
reads_picture entropy transform8 =
    let b : Bool × Bool = (entropy, transform8) in
    one_code 0 _ _ b (omega arith) (one_code 0 _ _ b (omega arith) (one_flag entropy _ _ b (one_number 1 0 _ _ b (omega arith)
    (one_code 0 _ _ b (omega arith) (one_code 0 _ _ b (omega arith) (one_code 0 _ _ b (omega arith)
    (one_number 1 0 _ _ b (omega arith) (one_number 2 0 _ _ b (omega arith)
    (signed_zero _ _ b (signed_zero _ _ b (signed_zero _ _ b
    (one_number 1 0 _ _ b (omega arith) (one_number 1 0 _ _ b (omega arith) (one_number 1 0 _ _ b (omega arith)
    (one_flag transform8 _ _ b (one_number 1 0 _ _ b (omega arith) (signed_zero _ _ b (over b))))))))))))))))))

-- a test that passes
pub passed : {B : Type 0} (t : Bool) (g : Unit {0} → Reader B) (bits : List Bool) (b : B) → t ≡ true → Reads (g tt) bits b → Reads (only t >>= g) bits b
passed t g bits b e h = subst (λ s. Reads (only s >>= g) bits b) (sym e) h

-- fields in two parts
pub two_parts : {A B : Type 0} (f : Reader A) (g : A → Reader B) (xs ys : List Field) (a : A) (b : B) → Reads f (fields_bits xs) a → Reads (g a) (fields_bits ys) b → Reads (f >>= g) (fields_bits (xs ++ ys)) b
two_parts f g xs ys a b h k = subst (λ bits. Reads (f >>= g) bits b) (sym (fields_bits-append xs ys)) (reads_then f g (fields_bits xs) (fields_bits ys) a b h k)

pub over_same : {B : Type 0} (a b : B) → a ≡ b → Reads (done a) (fields_bits []) b
over_same a b e = subst (λ x. Reads (done a) (fields_bits []) x) e (over a)

-- ---- cropping

pub is_le : (m n : ℕ) → m ≤ n → nat_le m n ≡ true
is_le m n h = grind (arith, nat_tests)

all_three : (p q r : Bool) → p ≡ true → q ≡ true → r ≡ true → (p && q && r) ≡ true
all_three p q r a b c = rw (a, b, c) refl

both : (p q : Bool) → p ≡ true → q ≡ true → (p && q) ≡ true
both p q a b = rw (a, b) refl

reads_cropping : (w h : ℕ) → w % 2 ≡ 0 → h % 2 ≡ 0 → Reads cropping (fields_bits (cropping_fields w h)) (padding w, padding h)
unfolding cropping cropping_fields
reads_cropping w h even even' = go (padding w == 0) (padding h == 0) refl refl
  where
    offsets : ℕ × ℕ
    offsets = (padding w, padding h)

    none : (n : ℕ) → (n == 0) ≡ true → n ≡ 0
    none n e = grind (arith, nat_tests)

    some : (n : ℕ) → (n == 0) ≡ false → 0 < n
    some n e = grind (arith, nat_tests)

    set : 1 ≤ padding w / 2 + padding h / 2 → Reads (flag >>= λ set. cropping_by set) (fields_bits (U 1 1 ∷ Ue 0 ∷ Ue (padding w / 2) ∷ Ue 0 ∷ Ue (padding h / 2) ∷ [])) (padding w, padding h)
    set one =
        let b : ℕ × ℕ = (padding w, padding h) in
        one_flag true _ _ b (one_code 0 _ _ b (omega arith) (code (padding w / 2) _ _ b (omega arith) (one_code 0 _ _ b (omega arith) (code (padding h / 2) _ _ b (omega arith)
        (passed (nat_le (padding w / 2) 7 && nat_le (padding h / 2) 7 && nat_le 1 (padding w / 2 + padding h / 2)) _ _ b
        (all_three _ _ _ (is_le (padding w / 2) 7 (omega arith)) (is_le (padding h / 2) 7 (omega arith)) (is_le 1 (padding w / 2 + padding h / 2) one))
        (over_same (2 * (padding w / 2), 2 * (padding h / 2)) b (ap₂ (λ x y. let p : ℕ × ℕ = (x, y) in p) (omega arith) (omega arith))))))))

    go : (p q : Bool) → (padding w == 0) ≡ p → (padding h == 0) ≡ q
        → Reads (flag >>= λ set. cropping_by set) (fields_bits (if p && q then U 1 0 ∷ [] else U 1 1 ∷ Ue 0 ∷ Ue (padding w / 2) ∷ Ue 0 ∷ Ue (padding h / 2) ∷ [])) (padding w, padding h)
    go true true p q =
        let b : ℕ × ℕ = (padding w, padding h) in
        let z : ℕ × ℕ = (0, 0) in
        one_flag false _ _ b (over_same z b (ap₂ (λ x y. let r : ℕ × ℕ = (x, y) in r) (sym (none (padding w) p)) (sym (none (padding h) q))))
    go true false p q = set (omega (arith, some (padding h) q))
    go false q p r = set (omega (arith, some (padding w) p))

-- ---- usability information

is_lt : (m n : ℕ) → m < n → nat_lt m n ≡ true
is_lt m n h = grind (arith, nat_tests)

is_even : (n : ℕ) → n % 2 ≡ 0 → (n % 2 == 0) ≡ true
is_even n e = grind (arith, nat_tests)

reads_clock : (t : Timing) → IsTiming t → Reads clock (fields_bits (U 32 t.den ∷ U 32 (2 * t.num) ∷ [])) (t.num, t.den)
reads_clock t k =
    let b : ℕ × ℕ = (t.num, t.den) in
    number 32 t.den _ _ b k.den_to (passed (nat_lt 0 t.den) _ _ b (is_lt 0 t.den k.den_from)
    (number 32 (2 * t.num) _ _ b (omega (arith, k.num_to)) (passed (nat_lt 0 (2 * t.num) && (2 * t.num % 2 == 0)) _ _ b (both _ _ (is_lt 0 (2 * t.num) (omega (arith, k.num_from))) (is_even (2 * t.num) (omega arith)))
    (over_same (2 * t.num / 2, t.den) b (ap (λ n. let x : ℕ × ℕ = (n, t.den) in x) (omega arith))))))

reads_buffer : (t : Timing) → IsTiming t → Reads nal_hrd (fields_bits (buffer_fields t)) (t.rate, t.cpb)
unfolding buffer_fields
reads_buffer t k =
    let b : ℕ × ℕ = (t.rate, t.cpb) in
    let rate : 64 * (t.rate / 64 - 1 + 1) ≡ t.rate = omega (arith, k.rate_from, k.rate_whole) in
    let size : 16 * (t.cpb / 16 - 1 + 1) ≡ t.cpb = omega (arith, k.cpb_from, k.cpb_whole) in
    one_code 0 _ _ b (omega arith) (one_number 4 0 _ _ b (omega arith) (one_number 4 0 _ _ b (omega arith)
    (code (t.rate / 64 - 1) _ _ b (omega (arith, k.rate_to)) (passed (nat_lt (64 * (t.rate / 64 - 1 + 1)) 4294967296) _ _ b (is_lt (64 * (t.rate / 64 - 1 + 1)) 4294967296 (omega (arith, rate, k.rate_to)))
    (code (t.cpb / 16 - 1) _ _ b (omega (arith, k.cpb_to)) (passed (nat_lt (16 * (t.cpb / 16 - 1 + 1)) 4294967296) _ _ b (is_lt (16 * (t.cpb / 16 - 1 + 1)) 4294967296 (omega (arith, size, k.cpb_to)))
    (one_number 1 1 _ _ b (omega arith)
    (one_number 5 31 _ _ b (omega arith) (one_number 5 23 _ _ b (omega arith) (one_number 5 23 _ _ b (omega arith) (one_number 5 0 _ _ b (omega arith)
    (over_same (64 * (t.rate / 64 - 1 + 1), 16 * (t.cpb / 16 - 1 + 1)) b (ap₂ (λ x y. let p : ℕ × ℕ = (x, y) in p) rate size)))))))))))))

reads_restriction : (refs : ℕ) (reorder : Bool) → refs ≤ 4
    → Reads (restriction refs) (fields_bits (U 1 1 ∷ U 1 1 ∷ Ue 0 ∷ Ue 0 ∷ Ue 8 ∷ Ue 8 ∷ Ue (digit reorder) ∷ Ue refs ∷ [])) reorder
reads_restriction refs reorder few =
    one_number 1 1 _ _ reorder (omega arith) (one_number 1 1 _ _ reorder (omega arith) (one_code 0 _ _ reorder (omega arith) (one_code 0 _ _ reorder (omega arith)
    (one_code 8 _ _ reorder (omega arith) (one_code 8 _ _ reorder (omega arith)
    (code (digit reorder) _ _ reorder (small reorder) (passed (nat_le (digit reorder) 1) _ _ reorder (least reorder)
    (one_code refs _ _ reorder (omega (arith, few)) (over_same (digit reorder == 1) reorder (back reorder))))))))))
  where
    small : (b : Bool) → digit b < 2 ^ 32 - 1
    small true = lit< tt
    small false = lit< tt

    least : (b : Bool) → nat_le (digit b) 1 ≡ true
    least true = refl
    least false = refl

    back : (b : Bool) → (digit b == 1) ≡ b
    back true = refl
    back false = refl

reads_usability : (refs : ℕ) (timing : Option Timing) → refs ≤ 4 → IfSome timing IsTiming → Reads (usability refs) (fields_bits (usability_fields refs timing)) timing
unfolding usability_fields
reads_usability refs None few k = let b : Option Timing = None in one_flag false (usability_by refs) [] b (over b)
reads_usability refs (Some t) few k =
    let b : Option Timing = Some t in
    let last : ℕ × ℕ → ℕ × ℕ → Reader (Option Timing) = λ pace held. restriction refs >>= λ reorder. done (Some (record { num = pace.0; den = pace.1; rate = held.0; cpb = held.1; reorder = reorder })) in
    let behind : ℕ × ℕ → ℕ × ℕ → Reader (Option Timing) = λ pace held. fixed (u 1) 0 >>= λ _. fixed (u 1) 0 >>= λ _. fixed (u 1) 0 >>= λ _. last pace held in
    let tail : List Field = U 1 1 ∷ U 1 1 ∷ Ue 0 ∷ Ue 0 ∷ Ue 8 ∷ Ue 8 ∷ Ue (digit t.reorder) ∷ Ue refs ∷ [] in
    one_flag true (usability_by refs) _ b
    (one_number 1 0 _ _ b (omega arith) (one_number 1 0 _ _ b (omega arith) (one_number 1 0 _ _ b (omega arith) (one_number 1 0 _ _ b (omega arith)
    (one_number 1 1 _ _ b (omega arith)
    (two_parts clock (λ pace. fixed (u 1) 1 >>= λ _. fixed (u 1) 1 >>= λ _. nal_hrd >>= behind pace) (U 32 t.den ∷ U 32 (2 * t.num) ∷ []) (U 1 1 ∷ U 1 1 ∷ (buffer_fields t ++ (U 1 0 ∷ U 1 0 ∷ U 1 0 ∷ tail))) (t.num, t.den) b (reads_clock t k)
    (one_number 1 1 _ _ b (omega arith) (one_number 1 1 _ _ b (omega arith)
    (two_parts nal_hrd (behind (t.num, t.den)) (buffer_fields t) (U 1 0 ∷ U 1 0 ∷ U 1 0 ∷ tail) (t.rate, t.cpb) b (reads_buffer t k)
    (one_number 1 0 _ _ b (omega arith) (one_number 1 0 _ _ b (omega arith) (one_number 1 0 _ _ b (omega arith)
    (reads_map (restriction refs) (λ reorder. let x : Option Timing = Some (record { num = t.num; den = t.den; rate = t.rate; cpb = t.cpb; reorder = reorder }) in x) (fields_bits tail) t.reorder b (reads_restriction refs t.reorder few) refl)))))))))))))

-- ---- sequence parameter sets

same_head : (h : SeqHead) (w v l r : ℕ) → w ≡ h.width → v ≡ h.height → l ≡ h.level → r ≡ h.refs → (let x : SeqHead = record { width = w; height = v; level = l; refs = r; timing = h.timing } in x ≡ h)
same_head h w v l r a b c d =
    ap (λ x. let y : SeqHead = record { width = x; height = v; level = l; refs = r; timing = h.timing } in y) a
    ∙ ap (λ x. let y : SeqHead = record { width = h.width; height = x; level = l; refs = r; timing = h.timing } in y) b
    ∙ ap (λ x. let y : SeqHead = record { width = h.width; height = h.height; level = x; refs = r; timing = h.timing } in y) c
    ∙ ap (λ x. let y : SeqHead = record { width = h.width; height = h.height; level = h.level; refs = x; timing = h.timing } in y) d

pub reads_sequence : (h : SeqHead) → IsSeqHead h → h.level < 256 → Reads sequence (fields_bits (sequence_fields h)) h
unfolding sequence sequence_fields format_fields
reads_sequence h k level =
    one_number 8 100 _ _ h (omega arith) (one_number 8 0 _ _ h (omega arith) (number 8 h.level _ _ h level (one_code 0 _ _ h (omega arith)
    (one_code 1 _ _ h (omega arith) (one_code 0 _ _ h (omega arith) (one_code 0 _ _ h (omega arith)
    (one_number 1 0 _ _ h (omega arith) (one_number 1 0 _ _ h (omega arith)
    (one_code 12 _ _ h (omega arith) (one_code 0 _ _ h (omega arith) (one_code 12 _ _ h (omega arith)
    (code h.refs _ _ h (omega (arith, k.refs_to)) (passed (nat_le 1 h.refs && nat_le h.refs 4) _ _ h (both _ _ (is_le 1 h.refs k.refs_from) (is_le h.refs 4 k.refs_to))
    (one_number 1 0 _ _ h (omega arith)
    (code (in_macroblocks h.width - 1) _ _ h (omega (arith, k.width_to)) (passed (nat_le (in_macroblocks h.width - 1) 255) _ _ h (is_le _ _ (omega (arith, k.width_to)))
    (code (in_macroblocks h.height - 1) _ _ h (omega (arith, k.height_to)) (passed (nat_le (in_macroblocks h.height - 1) 143) _ _ h (is_le _ _ (omega (arith, k.height_to)))
    (one_number 1 1 _ _ h (omega arith) (one_number 1 1 _ _ h (omega arith)
    (two_parts cropping _ (cropping_fields h.width h.height) (usability_fields h.refs h.timing) (padding h.width, padding h.height) h (reads_cropping h.width h.height k.width_even k.height_even)
    (passed (nat_le 16 (16 * (in_macroblocks h.width - 1 + 1) - padding h.width) && nat_le 16 (16 * (in_macroblocks h.height - 1 + 1) - padding h.height)) _ _ h
    (both _ _ (is_le 16 (16 * (in_macroblocks h.width - 1 + 1) - padding h.width) (omega (arith, k.width_from))) (is_le 16 (16 * (in_macroblocks h.height - 1 + 1) - padding h.height) (omega (arith, k.height_from))))
    (reads_map (usability h.refs) (λ t. let x : SeqHead = record { width = 16 * (in_macroblocks h.width - 1 + 1) - padding h.width; height = 16 * (in_macroblocks h.height - 1 + 1) - padding h.height; level = h.level; refs = h.refs; timing = t } in x)
    (fields_bits (usability_fields h.refs h.timing)) h.timing h (reads_usability h.refs h.timing (omega (arith, k.refs_to)) k.timing)
    (same_head h _ _ _ _ (omega (arith, k.width_from)) (omega (arith, k.height_from)) refl refl))))))))))))))))))))))))

-- ---- slice headers

-- the difference from 26 gives the parameter back
pub qp_back : (qp : ℕ) → pos 26 +ℤ (pos qp -ℤ pos 26) ≡ pos qp
qp_back qp = omega (arith, ints)

pub place_small : (z : ℤ) (qp : ℕ) → pos 26 +ℤ z ≡ pos qp → qp ≤ 51 → signed_place z < 2 ^ 32 - 1
place_small (pos zero) qp e h = omega arith
place_small (pos (suc n)) qp e h = omega (arith, ints, e)
place_small (negsuc n) qp e h = omega (arith, ints, e)

-- a signed number in front
pub signed : {B : Type 0} (z : ℤ) (g : ℤ → Reader B) (fields : List Field) (b : B) → signed_place z < 2 ^ 32 - 1 → Reads (g z) (fields_bits fields) b → Reads (se >>= g) (fields_bits (Se z ∷ fields)) b
unfolding fields_bits
signed z g fields b h k = reads_then se g (se_bits z) (fields_bits fields) z b (reads_se z h) k

pub reads_quantiser : {B : Type 0} (z : ℤ) (qp : ℕ) (g : ℕ → Reader B) (bits : List Bool) (b : B) → pos 26 +ℤ z ≡ pos qp → qp ≤ 51 → Reads (g qp) bits b → Reads (quantiser (pos 26 +ℤ z) >>= g) bits b
reads_quantiser z qp g bits b e h k =
    subst (λ x. Reads (quantiser x >>= g) bits b) (sym e) (subst (λ s. Reads ((only s >>= λ _. done qp) >>= g) bits b) (sym (is_le qp 51 h)) k)

no_init : (cabac : Bool) → init_fields cabac I ≡ []
unfolding init_fields
no_init true = refl
no_init false = refl

pub reads_idr_slice : (first_mb frame_num idr_id poc qp : ℕ) (cabac : Bool) → first_mb < 2 ^ 32 - 1 → frame_num < 2 ^ 16 → idr_id ≤ 1 → poc < 2 ^ 16 → qp ≤ 51
    → Reads (idr_slice cabac) (fields_bits (slice_fields (idr_head first_mb frame_num idr_id poc qp cabac))) (idr_head first_mb frame_num idr_id poc qp cabac)
unfolding idr_slice idr_head slice_fields place_fields list_fields marking_fields
reads_idr_slice first_mb frame_num idr_id poc qp cabac a b c d e =
    let h : SliceHead = record { first_mb = first_mb; kind = I; idr = true; frame_num = frame_num; idr_id = idr_id; poc = poc; refs0 = 0; refs1 = 0; moved = None; qp = qp; cabac = cabac } in
    let z : ℤ = pos qp -ℤ pos 26 in
    code first_mb _ _ h a (one_code 7 _ _ h (omega arith) (one_code 0 _ _ h (omega arith) (number 16 frame_num _ _ h b
    (code idr_id _ _ h (omega arith) (passed (nat_le idr_id 1) _ _ h (is_le idr_id 1 c) (number 16 poc _ _ h d
    (one_number 1 0 _ _ h (omega arith) (one_number 1 0 _ _ h (omega arith)
    (subst (λ init. Reads (se >>= λ delta. quantiser (pos 26 +ℤ delta) >>= λ q. done (record h { qp = q })) (fields_bits (init ++ (Se z ∷ []))) h) (sym (no_init cabac))
    (signed z _ _ h (place_small z qp (qp_back qp) e)
    (reads_quantiser z qp (λ q. done (record h { qp = q })) _ h (qp_back qp) e (over h))))))))))))
