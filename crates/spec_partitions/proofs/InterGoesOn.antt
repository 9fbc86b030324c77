-- No bin of what P and B slices add ends the code.
use Rattle.std.proofs.Common.{◌≡◌, ℕ, zero, suc, ◌+◌, ◌-◌, ◌<◌, ◌≤◌, Bool, true, false, cond, ◌&&◌, List, [], ◌∷◌, Option, refl, ap, arith}
use Rattle.std.specs.Prelude.{◌==◌, nat_lt, nat_le, min, nat_abs, ℤ, pos, negsuc}
use Rattle.enc_tables.specs.declared.records.MbRecord.{MbRecord}
use Rattle.enc_tables.specs.declared.records.Motion.{Motion}
use Rattle.enc_tables.specs.declared.records.SliceKind.{SliceKind}
use Rattle.spec_contexts.specs.Near.{left_holder2, above_holder2, left_block2, above_block2}
use Rattle.spec_contexts.specs.Increments.{weight, plain, doubled, mvd_size, mvd_class, inc_skip, inc_type_b, inc_ref, inc_mvd}
use Rattle.spec_syntax.specs.declared.ListUse.{ListUse}
use Rattle.spec_syntax.specs.Elements.{IntraType, NxN, Pcm, Whole}
use Rattle.spec_syntax.specs.Numbers.{prefix_string, golomb_string}
use Rattle.spec_syntax.specs.Inter.{PType, p_type_string, BType, b_type_string, sub_type_p, sub_at, sub_type_string, sub_string, ref_at, ref_index_string, mvd_from, mvd_at, sign_string, mvd_string}
use Rattle.spec_slice_data.specs.Decoding.{is_terminate}
use Rattle.spec_slice_data.specs.Coding.{GoesOn}
use Rattle.spec_slice_data.proofs.Decoded.{goes_on_append}
use Rattle.spec_partitions.specs.Near.{Near}
use Rattle.spec_partitions.specs.Partitions.{shape_of, part_count, first_block, part_mvd}
use Rattle.spec_partitions.specs.Inter.{sub_part_string, sub_types_string, ref_part_string, references_string, mvd_part_string, differences_string, inter_string}
use Rattle.spec_partitions.proofs.Contexts.{Plain, plain_below, over, one_more, one_bin, goes_flag, goes_string, goes_where, goes_parts, goes_golomb}

weight_small : (b : Bool) → weight b ≤ 1
weight_small true = omega arith
weight_small false = omega arith

plain_small : (a b : Bool) → plain a b ≤ 2
plain_small a b = omega (arith, weight_small a, weight_small b)

doubled_small : (a b : Bool) → doubled a b ≤ 3
doubled_small a b = omega (arith, weight_small a, weight_small b)

pub skip_inc : (left above : Option MbRecord) → inc_skip left above ≤ 2
unfolding inc_skip
skip_inc left above = plain_small _ _

pub type_b_inc : (left above : Option MbRecord) → inc_type_b left above ≤ 2
unfolding inc_type_b
type_b_inc left above = plain_small _ _

ref_inc : (mb : MbRecord) (left above : Option MbRecord) (list k : ℕ) → inc_ref mb left above list k ≤ 3
unfolding inc_ref
ref_inc mb left above list k = doubled_small _ _

class_small : (sum : ℕ) → mvd_class sum ≤ 2
class_small sum = go (nat_lt sum 3) (nat_le sum 32)
  where
    go : (a b : Bool) → cond a 0 (cond b 1 2) ≤ 2
    go true b = omega arith
    go false true = omega arith
    go false false = omega arith

mvd_inc : (mb : MbRecord) (left above : Option MbRecord) (list k : ℕ) (vertical : Bool) → inc_mvd mb left above list k vertical ≤ 2
unfolding inc_mvd
mvd_inc mb left above list k vertical =
    class_small (mvd_size list (left_block2 k) vertical (left_holder2 mb left k) + mvd_size list (above_block2 k) vertical (above_holder2 mb above k))

-- ---- mb_type

unfoldable pub IsRead : IntraType → Type 0
IsRead NxN = Unit {0}
IsRead Pcm = ⊥
IsRead (Whole mode chroma ac) = chroma ≤ 2

unfoldable pub ReadP : PType → Type 0
ReadP (PType.Intra t) = IsRead t
ReadP _ = Unit {0}

unfoldable pub ReadB : BType → Type 0
ReadB (BType.Intra t) = IsRead t
ReadB _ = Unit {0}

pub goes_p : (t : PType) → ReadP t → GoesOn (p_type_string t)
unfolding ReadP IsRead p_type_string GoesOn
goes_p PType.One h = assumption refl
goes_p PType.Rows h = assumption refl
goes_p PType.Columns h = assumption refl
goes_p PType.Four h = assumption refl
goes_p (PType.Intra NxN) h = assumption refl
goes_p (PType.Intra Pcm) h = absurd h
goes_p (PType.Intra (Whole mode zero ac)) h = assumption refl
goes_p (PType.Intra (Whole mode (suc zero) ac)) h = assumption refl
goes_p (PType.Intra (Whole mode (suc (suc zero)) ac)) h = assumption refl
goes_p (PType.Intra (Whole mode (suc (suc (suc n))) ac)) h = absurd (omega (arith, h))

goes_b_by : (inc : ℕ) (t : BType) → ((b : Bool) → (is_terminate (27 + inc) && b) ≡ false) → ReadB t → GoesOn (b_type_string inc t)
unfolding ReadB IsRead b_type_string GoesOn
goes_b_by inc BType.Direct i h = assumption (refl, i true, i false)
goes_b_by inc BType.Four i h = assumption (refl, i true, i false)
goes_b_by inc (BType.One ListUse.L0) i h = assumption (refl, i true, i false)
goes_b_by inc (BType.One ListUse.L1) i h = assumption (refl, i true, i false)
goes_b_by inc (BType.One ListUse.Bi) i h = assumption (refl, i true, i false)
goes_b_by inc (BType.Rows ListUse.L0 ListUse.L0) i h = assumption (refl, i true, i false)
goes_b_by inc (BType.Rows ListUse.L0 ListUse.L1) i h = assumption (refl, i true, i false)
goes_b_by inc (BType.Rows ListUse.L0 ListUse.Bi) i h = assumption (refl, i true, i false)
goes_b_by inc (BType.Rows ListUse.L1 ListUse.L0) i h = assumption (refl, i true, i false)
goes_b_by inc (BType.Rows ListUse.L1 ListUse.L1) i h = assumption (refl, i true, i false)
goes_b_by inc (BType.Rows ListUse.L1 ListUse.Bi) i h = assumption (refl, i true, i false)
goes_b_by inc (BType.Rows ListUse.Bi ListUse.L0) i h = assumption (refl, i true, i false)
goes_b_by inc (BType.Rows ListUse.Bi ListUse.L1) i h = assumption (refl, i true, i false)
goes_b_by inc (BType.Rows ListUse.Bi ListUse.Bi) i h = assumption (refl, i true, i false)
goes_b_by inc (BType.Columns ListUse.L0 ListUse.L0) i h = assumption (refl, i true, i false)
goes_b_by inc (BType.Columns ListUse.L0 ListUse.L1) i h = assumption (refl, i true, i false)
goes_b_by inc (BType.Columns ListUse.L0 ListUse.Bi) i h = assumption (refl, i true, i false)
goes_b_by inc (BType.Columns ListUse.L1 ListUse.L0) i h = assumption (refl, i true, i false)
goes_b_by inc (BType.Columns ListUse.L1 ListUse.L1) i h = assumption (refl, i true, i false)
goes_b_by inc (BType.Columns ListUse.L1 ListUse.Bi) i h = assumption (refl, i true, i false)
goes_b_by inc (BType.Columns ListUse.Bi ListUse.L0) i h = assumption (refl, i true, i false)
goes_b_by inc (BType.Columns ListUse.Bi ListUse.L1) i h = assumption (refl, i true, i false)
goes_b_by inc (BType.Columns ListUse.Bi ListUse.Bi) i h = assumption (refl, i true, i false)
goes_b_by inc (BType.Intra NxN) i h = assumption (refl, i true, i false)
goes_b_by inc (BType.Intra Pcm) i h = absurd h
goes_b_by inc (BType.Intra (Whole mode zero ac)) i h = assumption (refl, i true, i false)
goes_b_by inc (BType.Intra (Whole mode (suc zero) ac)) i h = assumption (refl, i true, i false)
goes_b_by inc (BType.Intra (Whole mode (suc (suc zero)) ac)) i h = assumption (refl, i true, i false)
goes_b_by inc (BType.Intra (Whole mode (suc (suc (suc n))) ac)) i h = absurd (omega (arith, h))

pub goes_b : (inc : ℕ) (t : BType) → inc ≤ 2 → ReadB t → GoesOn (b_type_string inc t)
goes_b inc t h k = goes_b_by inc t (λ b. ap (λ t. t && b) (plain_below (27 + inc) (omega arith))) k

-- ---- sub_mb_type

sub_plain : (xs : List Bool) → Plain (sub_at xs)
sub_plain [] = refl
sub_plain (a ∷ []) = refl
sub_plain (a ∷ true ∷ []) = refl
sub_plain (a ∷ false ∷ []) = refl
sub_plain (a ∷ true ∷ c ∷ xs) = refl
sub_plain (a ∷ false ∷ c ∷ xs) = refl

goes_use : (u : ListUse) → GoesOn (sub_type_string u)
unfolding sub_type_string
goes_use u = goes_string sub_at [] _ sub_plain

goes_sub : (s : SliceKind) (m : Motion) → GoesOn (sub_string s m)
goes_sub SliceKind.I m = goes_flag sub_type_p true refl
goes_sub SliceKind.P m = goes_flag sub_type_p true refl
goes_sub SliceKind.B m = goes_use _

pub goes_subs : (s : SliceKind) (mb : MbRecord) → GoesOn (sub_types_string s mb)
unfolding sub_types_string
goes_subs s mb = goes_parts (sub_part_string s mb) 4 (λ k lt. goes_sub s _)

-- ---- ref_idx

ref_plain : (inc : ℕ) → inc ≤ 3 → (xs : List Bool) → Plain (ref_at inc xs)
ref_plain inc h [] = plain_below (54 + inc) (omega arith)
ref_plain inc h (x ∷ []) = refl
ref_plain inc h (x ∷ y ∷ xs) = refl

goes_ref : (inc index : ℕ) → inc ≤ 3 → GoesOn (ref_index_string inc index)
unfolding ref_index_string
goes_ref inc index h = goes_string (ref_at inc) [] _ (ref_plain inc h)

goes_references : (near : Near) (mb : MbRecord) (list entries : ℕ) → GoesOn (references_string near mb list entries)
unfolding references_string
goes_references near mb list entries = goes_parts (ref_part_string near mb list entries) (part_count (shape_of mb.kind)) (λ part lt.
    goes_where _ _ (goes_where (nat_lt 1 entries) _ (goes_ref _ _ (ref_inc mb near.left near.above list (first_block (shape_of mb.kind) part)))))

-- ---- mvd

goes_prefix : (ctx : ℕ → ℕ) (i n v : ℕ) → ((j : ℕ) → Plain (ctx j)) → GoesOn (prefix_string ctx i n v)
unfolding prefix_string
goes_prefix ctx i zero v h = over
goes_prefix ctx i (suc n) zero h = one_bin (ctx i) false (h i)
goes_prefix ctx i (suc n) (suc v) h = one_more (ctx i) true (prefix_string ctx (suc i) n v) (h i) (goes_prefix ctx (suc i) n v h)

mvd_plain : (vertical : Bool) (inc : ℕ) → inc ≤ 2 → (j : ℕ) → Plain (mvd_at vertical inc j)
mvd_plain vertical inc h j = plain_below (mvd_at vertical inc j) (go vertical (j == 0))
  where
    go : (v b : Bool) → mvd_from v + cond b inc (min (j + 2) 6) < 276
    go true true = omega (arith, h)
    go true false = omega arith
    go false true = omega (arith, h)
    go false false = omega arith

goes_sign : (d : ℤ) → GoesOn (sign_string d)
goes_sign (pos zero) = over
goes_sign (pos (suc m)) = one_bin 1000 false refl
goes_sign (negsuc m) = one_bin 1000 true refl

goes_size : (b : Bool) (m : ℕ) → GoesOn (cond b [] (golomb_string 12 3 m))
goes_size true m = over
goes_size false m = goes_golomb 12 3 m

goes_mvd : (vertical : Bool) (inc : ℕ) (d : ℤ) → inc ≤ 2 → GoesOn (mvd_string vertical inc d)
unfolding mvd_string
goes_mvd vertical inc d h =
    goes_on_append (prefix_string (mvd_at vertical inc) 0 9 (nat_abs d)) _ (goes_prefix (mvd_at vertical inc) 0 9 (nat_abs d) (mvd_plain vertical inc h))
    (goes_on_append (cond (nat_lt (nat_abs d) 9) [] (golomb_string 12 3 (nat_abs d - 9))) (sign_string d) (goes_size (nat_lt (nat_abs d) 9) (nat_abs d - 9)) (goes_sign d))

goes_differences : (near : Near) (mb : MbRecord) (list : ℕ) → GoesOn (differences_string near mb list)
unfolding differences_string
goes_differences near mb list = goes_parts (mvd_part_string near mb list) (part_count (shape_of mb.kind)) (λ part lt.
    goes_where _ _ (goes_on_append (mvd_string false (inc_mvd mb near.left near.above list (first_block (shape_of mb.kind) part) false) (part_mvd mb list part).x) _
    (goes_mvd false _ _ (mvd_inc mb near.left near.above list (first_block (shape_of mb.kind) part) false)) (goes_mvd true _ _ (mvd_inc mb near.left near.above list (first_block (shape_of mb.kind) part) true))))

pub goes_inter : (near : Near) (mb : MbRecord) → GoesOn (inter_string near mb)
unfolding inter_string
goes_inter near mb =
    goes_on_append (references_string near mb 0 near.refs0) _ (goes_references near mb 0 near.refs0) (goes_on_append (references_string near mb 1 near.refs1) _ (goes_references near mb 1 near.refs1)
    (goes_on_append (differences_string near mb 0) (differences_string near mb 1) (goes_differences near mb 0) (goes_differences near mb 1)))
