-- The strings of partitions, by what their writers test, and that their bins can be coded.
use Rattle.std.proofs.Common.{◌≡◌, ℕ, zero, suc, ◌+◌, ◌-◌, ◌^◌, ◌<◌, ◌≤◌, Bool, true, false, cond, List, [], ◌∷◌, ◌++◌, refl, sym, ap, subst, ◌∙◌, ◌||◌, arith, inl, get_or}
use Rattle.std.specs.Prelude.{nat_lt, nat_abs, min, ◌==◌, ℤ, pos, negsuc}
use Rattle.std.specs.List.{AllByRecursion}
use Rattle.enc_tables.specs.declared.records.MbRecord.{MbRecord}
use Rattle.enc_tables.specs.declared.records.MbKind.{MbKind}
use Rattle.enc_tables.specs.declared.records.Motion.{Motion}
use Rattle.enc_tables.specs.declared.records.SliceKind.{SliceKind}
use Rattle.spec_syntax.specs.declared.ListUse.{ListUse}
use Rattle.enc_tables.specs.Records.{no_motion, is_used}
use Rattle.enc_tables.specs.Kinds.{has_motion}
use Rattle.spec_contexts.specs.Increments.{ref_of, mvd_of, inc_ref, inc_mvd}
use Rattle.spec_syntax.specs.declared.Bin.{Bin}
use Rattle.spec_syntax.specs.Syntax.{at, flag_string}
use Rattle.spec_syntax.specs.Numbers.{unary, prefix_string, golomb_string, number_string}
use Rattle.spec_syntax.specs.Inter.{first_used, second_used, skip_at, sub_type_p, sub_at, sub_bits, sub_type_string, sub_string, ref_at, ref_index_string, mvd_from, mvd_at, mvd_string, sign_string}
use Rattle.spec_partitions.specs.Near.{Near}
use Rattle.spec_partitions.specs.Parts.{parts_string}
use Rattle.spec_partitions.specs.Partitions.{shape_of, part_count, first_block, part_ref, part_mvd}
use Rattle.spec_partitions.specs.Inter.{is_four, ref_part_string, references_string, mvd_part_string, differences_string, inter_string}
use Rattle.spec_partitions.specs.Records.{RefFits, UsesFit}
use Rattle.spec_macroblock.specs.Records.{IsRecord}
use Rattle.bin_writer.specs.Coding.{IsCodable}
use Rattle.mb_syntax.proofs.Codable.{low, low_string}

-- ---- ref_idx

pub ref_unused : (near : Near) (mb : MbRecord) (list entries part : ℕ) → is_used (part_ref mb list part) ≡ false → ref_part_string near mb list entries part ≡ []
ref_unused near mb list entries part h = rw h refl

pub ref_single : (near : Near) (mb : MbRecord) (list entries part : ℕ) → is_used (part_ref mb list part) ≡ true → nat_lt 1 entries ≡ false → ref_part_string near mb list entries part ≡ []
ref_single near mb list entries part h k = rw (h, k) refl

pub ref_some : (near : Near) (mb : MbRecord) (list entries part inc : ℕ) → is_used (part_ref mb list part) ≡ true → nat_lt 1 entries ≡ true → inc ≡ inc_ref mb near.left near.above list (first_block (shape_of mb.kind) part)
    → ref_part_string near mb list entries part ≡ ref_index_string inc (nat_abs (part_ref mb list part))
ref_some near mb list entries part inc h k e = rw (h, k, e) refl

small_ref : (entries : ℕ) (r : ℤ) → RefFits entries r → is_used r ≡ true → nat_abs r ≤ 3
small_ref entries (pos n) h e = omega (arith, h.1)
small_ref entries (negsuc n) h e = absurd cc

pub ref_small : (near : Near) (mb : MbRecord) (list part : ℕ) → IsRecord near mb → has_motion mb.kind ≡ true → list ≤ 1 → part < part_count (shape_of mb.kind) → is_used (part_ref mb list part) ≡ true → nat_abs (part_ref mb list part) ≤ 3
ref_small near mb zero part h m l p e = small_ref near.refs0 (part_ref mb 0 part) (h.parts_fit m part p).first e
ref_small near mb (suc zero) part h m l p e = small_ref near.refs1 (part_ref mb 1 part) (h.parts_fit m part p).second e
ref_small near mb (suc (suc n)) part h m l p e = absurd (omega arith)

pub ref_codable : (inc index : ℕ) → inc ≤ 3 → AllByRecursion IsCodable (ref_index_string inc index)
unfolding ref_index_string
ref_codable inc index h = low_string (ref_at inc) below [] (unary index)
  where
    below : (before : List Bool) → ref_at inc before < 276
    below [] = omega arith
    below (b ∷ []) = omega arith
    below (b ∷ c ∷ before) = omega arith

pub references_is : (near : Near) (mb : MbRecord) (list entries : ℕ) → references_string near mb list entries ≡ parts_string (ref_part_string near mb list entries) (part_count (shape_of mb.kind))
unfolding references_string
references_is near mb list entries = refl

-- ---- mvd

pub mvd_unused : (near : Near) (mb : MbRecord) (list part : ℕ) → is_used (part_ref mb list part) ≡ false → mvd_part_string near mb list part ≡ []
mvd_unused near mb list part h = rw h refl

pub mvd_some : (near : Near) (mb : MbRecord) (list part a b : ℕ) → is_used (part_ref mb list part) ≡ true → a ≡ inc_mvd mb near.left near.above list (first_block (shape_of mb.kind) part) false
    → b ≡ inc_mvd mb near.left near.above list (first_block (shape_of mb.kind) part) true → mvd_part_string near mb list part ≡ mvd_string false a (part_mvd mb list part).x ++ mvd_string true b (part_mvd mb list part).y
mvd_some near mb list part a b h e f = rw (h, e, f) refl

all_append : (xs ys : List Bin) → AllByRecursion IsCodable xs → AllByRecursion IsCodable ys → AllByRecursion IsCodable (xs ++ ys)
all_append [] ys h k = k
all_append (x ∷ xs) ys h k = (h.0, all_append xs ys h.1 k)

bypass : (b : Bool) → IsCodable (at 1000 b)
bypass b = inl refl

prefix_codable : (ctx : ℕ → ℕ) (i n v : ℕ) → ((j : ℕ) → ctx j < 276) → AllByRecursion IsCodable (prefix_string ctx i n v)
unfolding prefix_string
prefix_codable ctx i zero v h = tt
prefix_codable ctx i (suc n) zero h = (low (ctx i) false (h i), tt)
prefix_codable ctx i (suc n) (suc v) h = (low (ctx i) true (h i), prefix_codable ctx (suc i) n v h)

number_codable : (n v : ℕ) → AllByRecursion IsCodable (number_string n v)
unfolding number_string
number_codable zero v = tt
number_codable (suc n) v = go (nat_lt v (2 ^ n)) (λ w. number_codable n w)
  where
    go : (b : Bool) → ((w : ℕ) → AllByRecursion IsCodable (number_string n w)) → AllByRecursion IsCodable (elim b [ true ↦ at 1000 false ∷ number_string n v | false ↦ at 1000 true ∷ number_string n (v - 2 ^ n) ])
    go true ih = (bypass false, ih v)
    go false ih = (bypass true, ih (v - 2 ^ n))

golomb_codable : (n k v : ℕ) → AllByRecursion IsCodable (golomb_string n k v)
unfolding golomb_string
golomb_codable zero k v = tt
golomb_codable (suc n) k v = go (nat_lt v (2 ^ k)) (λ w. golomb_codable n (suc k) w)
  where
    go : (b : Bool) → ((w : ℕ) → AllByRecursion IsCodable (golomb_string n (suc k) w)) → AllByRecursion IsCodable (elim b [ true ↦ at 1000 false ∷ number_string k v | false ↦ at 1000 true ∷ golomb_string n (suc k) (v - 2 ^ k) ])
    go true ih = (bypass false, number_codable k v)
    go false ih = (bypass true, ih (v - 2 ^ k))

mvd_below : (vertical : Bool) (inc : ℕ) → inc ≤ 2 → (j : ℕ) → mvd_at vertical inc j < 276
mvd_below vertical inc h j = go vertical (j == 0)
  where
    go : (v b : Bool) → mvd_from v + cond b inc (min (j + 2) 6) < 276
    go true true = omega (arith, h)
    go true false = omega arith
    go false true = omega (arith, h)
    go false false = omega arith

size_codable : (b : Bool) (m : ℕ) → AllByRecursion IsCodable (cond b [] (golomb_string 12 3 m))
size_codable true m = tt
size_codable false m = golomb_codable 12 3 m

sign_codable : (d : ℤ) → AllByRecursion IsCodable (sign_string d)
sign_codable (pos zero) = tt
sign_codable (pos (suc m)) = (bypass false, tt)
sign_codable (negsuc m) = (bypass true, tt)

pub mvd_codable : (vertical : Bool) (inc : ℕ) (d : ℤ) → inc ≤ 2 → AllByRecursion IsCodable (mvd_string vertical inc d)
unfolding mvd_string
mvd_codable vertical inc d h =
    all_append (prefix_string (mvd_at vertical inc) 0 9 (nat_abs d)) _ (prefix_codable (mvd_at vertical inc) 0 9 (nat_abs d) (mvd_below vertical inc h))
    (all_append (cond (nat_lt (nat_abs d) 9) [] (golomb_string 12 3 (nat_abs d - 9))) (sign_string d) (size_codable (nat_lt (nat_abs d) 9) (nat_abs d - 9)) (sign_codable d))

pub differences_is : (near : Near) (mb : MbRecord) (list : ℕ) → differences_string near mb list ≡ parts_string (mvd_part_string near mb list) (part_count (shape_of mb.kind))
unfolding differences_string
differences_is near mb list = refl

pub inter_is : (near : Near) (mb : MbRecord) → inter_string near mb ≡ references_string near mb 0 near.refs0 ++ (references_string near mb 1 near.refs1 ++ (differences_string near mb 0 ++ differences_string near mb 1))
unfolding inter_string
inter_is near mb = refl

pub none_yet : (string : ℕ → List Bin) → parts_string string 0 ≡ []
unfolding parts_string
none_yet string = refl

pub one_more : (string : ℕ → List Bin) (n : ℕ) → parts_string string (n + 1) ≡ parts_string string n ++ string n
unfolding parts_string
one_more string n = let e : n + 1 ≡ suc n = omega arith in rw e refl

-- ---- the first block of a partition, by the shape

pub block_at_part : (mb : MbRecord) (part shape block : ℕ) → shape ≡ shape_of mb.kind → block ≡ first_block shape part → block ≡ first_block (shape_of mb.kind) part
block_at_part mb part shape block s b = b ∙ ap (λ n. first_block n part) s

pub used_at_part : (mb : MbRecord) (list part shape block : ℕ) → shape ≡ shape_of mb.kind → block ≡ first_block shape part → is_used (ref_of mb list block) ≡ is_used (part_ref mb list part)
used_at_part mb list part shape block s b = ap (λ k. is_used (ref_of mb list k)) (block_at_part mb part shape block s b)

pub two_components : (near : Near) (mb : MbRecord) (list part block : ℕ) → is_used (part_ref mb list part) ≡ true → block ≡ first_block (shape_of mb.kind) part → mvd_part_string near mb list part
    ≡ mvd_string false (inc_mvd mb near.left near.above list block false) (mvd_of mb list block false) ++ mvd_string true (inc_mvd mb near.left near.above list block true) (mvd_of mb list block true)
two_components near mb list part block h b = rw (h, b) refl

-- ---- sub_mb_type

sub_below : (xs : List Bool) → sub_at xs < 276
sub_below [] = omega arith
sub_below (a ∷ []) = omega arith
sub_below (a ∷ true ∷ []) = omega arith
sub_below (a ∷ false ∷ []) = omega arith
sub_below (a ∷ true ∷ c ∷ xs) = omega arith
sub_below (a ∷ false ∷ c ∷ xs) = omega arith

use_codable : (u : ListUse) → AllByRecursion IsCodable (sub_type_string u)
unfolding sub_type_string
use_codable u = low_string sub_at sub_below [] (sub_bits u)

flag_codable : (c : ℕ) (b : Bool) → c < 276 → AllByRecursion IsCodable (flag_string c b)
unfolding flag_string
flag_codable c b h = (low c b h, tt)

pub sub_codable : (s : SliceKind) (m : Motion) → AllByRecursion IsCodable (sub_string s m)
sub_codable SliceKind.I m = flag_codable sub_type_p true (omega arith)
sub_codable SliceKind.P m = flag_codable sub_type_p true (omega arith)
sub_codable SliceKind.B m = use_codable _

pub skip_codable : (s : SliceKind) (inc : ℕ) (b : Bool) → inc ≤ 2 → AllByRecursion IsCodable (flag_string (skip_at s inc) b)
skip_codable SliceKind.I inc b h = flag_codable (11 + inc) b (omega arith)
skip_codable SliceKind.P inc b h = flag_codable (11 + inc) b (omega arith)
skip_codable SliceKind.B inc b h = flag_codable (24 + inc) b (omega arith)

either : (s : SliceKind) (a b : Bool) → UsesFit s a b → (a || b) ≡ true
either SliceKind.I a b h = absurd h
either SliceKind.P true b h = refl
either SliceKind.P false b h = absurd cc
either SliceKind.B a b h = h

four_parts : (k : MbKind) → is_four k ≡ true → (has_motion k ≡ true) × (shape_of k ≡ 3)
four_parts MbKind.P8x8 e = (refl, refl)
four_parts MbKind.B8x8 e = (refl, refl)
four_parts _ e = absurd cc

pub sub_used : (near : Near) (mb : MbRecord) → IsRecord near mb → is_four mb.kind ≡ true → (k : ℕ) → k ≤ 3 → (is_used (ref_of mb 0 k) || is_used (ref_of mb 1 k)) ≡ true
sub_used near mb h f k le =
    let shape : shape_of mb.kind ≡ 3 = (four_parts mb.kind f).1 in
    let inside : k < part_count (shape_of mb.kind) = subst (λ s. k < part_count s) (sym shape) (omega arith) in
    let fits = (h.parts_fit (four_parts mb.kind f).0 k inside).uses in
    ap (λ s. is_used (ref_of mb 0 (first_block s k)) || is_used (ref_of mb 1 (first_block s k))) (sym shape) ∙ either near.kind _ _ fits

pub sub_motion_used : (near : Near) (mb : MbRecord) (m : Motion) → IsRecord near mb → is_four mb.kind ≡ true → (k : ℕ) → k ≤ 3 → m ≡ get_or mb.motion k no_motion → (first_used m || second_used m) ≡ true
sub_motion_used near mb m h f k le e = ap (λ (m : Motion). first_used m || second_used m) e ∙ sub_used near mb h f k le
