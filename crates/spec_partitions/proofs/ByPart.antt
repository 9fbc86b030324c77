-- Values by partition, and the increments of a macroblock that is read as far as a partition.
use Rattle.std.proofs.Common.{◌≡◌, ℕ, zero, suc, ◌+◌, ◌*◌, ◌/◌, ◌%◌, ◌<◌, ◌≤◌, Bool, true, false, cond, List, [], ◌∷◌, ◌++◌, Option, Some, refl, sym, ap, ◌∙◌, arith, get_or, length}
use Rattle.std.proofs.Common.{inl, inr}
use Rattle.std.specs.Prelude.{◌==◌, ℤ, negsuc}
use Rattle.std.proofs.lemmas.Bool.{cases_lt}
use Rattle.std.proofs.lemmas.List.{length-append}
use Rattle.std.proofs.Math.ListN.{get_or-append}
use Rattle.std.proofs.Math.Seq.{get_or-append_seam}
use Rattle.enc_tables.specs.declared.records.MbKind.{MbKind}
use Rattle.enc_tables.specs.declared.records.MbRecord.{MbRecord}
use Rattle.enc_tables.specs.declared.records.Vector.{Vector}
use Rattle.enc_tables.specs.Records.{blank_record, zero_vector}
use Rattle.spec_contexts.specs.Near.{left_holder2, above_holder2, left_block2, above_block2}
use Rattle.spec_contexts.specs.Increments.{weight, ref_of, ref_flag, mvd_size, mvd_class, inc_ref, inc_mvd}
use Rattle.spec_syntax.proofs.Elements.{below_4}
use Rattle.spec_partitions.specs.Partitions.{shape_of, part_count, first_block, part_of, by_part, part_ref, part_mvd, difference_of, ref_in, vector_in, sketch}

-- ---- lists by partition

pub length_by : {A : Type 0} (f : ℕ → A) (n : ℕ) → length (by_part f n) ≡ n
unfolding by_part
length_by f zero = refl
length_by f (suc n) = length-append (by_part f n) (f n ∷ []) ∙ ap (λ k. k + 1) (length_by f n) ∙ omega arith

pub by_at : {A : Type 0} (f : ℕ → A) (n k : ℕ) (d : A) → k < n → get_or (by_part f n) k d ≡ f k
unfolding by_part
by_at f zero k d h = absurd (omega arith)
by_at f (suc n) k d h = elim (cases_lt k n) [
  | inl lt ↦ get_or-append (by_part f n) (f n ∷ []) d k (rw length_by (omega arith)) ∙ by_at f n k d lt
  | inr le ↦
      let last : k ≡ n = omega arith in
      ap (λ m. get_or (by_part f n ++ f n ∷ []) m d) (last ∙ sym (length_by f n)) ∙ get_or-append_seam (by_part f n) (f n) [] d ∙ ap f (sym last)
]

-- ---- shapes

pub below_2 : (P : ℕ → Type 0) → P 0 → P 1 → (n : ℕ) → n < 2 → P n
below_2 P x0 x1 zero h = x0
below_2 P x0 x1 (suc zero) h = x1
below_2 P x0 x1 (suc (suc n)) h = absurd (omega arith)

pub below_1 : (P : ℕ → Type 0) → P 0 → (n : ℕ) → n < 1 → P n
below_1 P x0 zero h = x0
below_1 P x0 (suc n) h = absurd (omega arith)

pub shape_small : (k : MbKind) → shape_of k < 4
shape_small MbKind.Pcm = omega arith
shape_small MbKind.Intra4 = omega arith
shape_small MbKind.Intra8 = omega arith
shape_small MbKind.Intra16 = omega arith
shape_small MbKind.P16 = omega arith
shape_small MbKind.P16x8 = omega arith
shape_small MbKind.P8x16 = omega arith
shape_small MbKind.P8x8 = omega arith
shape_small MbKind.PSkip = omega arith
shape_small MbKind.B16 = omega arith
shape_small MbKind.B16x8 = omega arith
shape_small MbKind.B8x16 = omega arith
shape_small MbKind.B8x8 = omega arith
shape_small MbKind.BDirect = omega arith
shape_small MbKind.BSkip = omega arith

-- for each partition of each shape
pub each_part : (P : ℕ → ℕ → Type 0) → P 0 0 → P 1 0 → P 1 1 → P 2 0 → P 2 1 → P 3 0 → P 3 1 → P 3 2 → P 3 3 → (shape part : ℕ) → shape < 4 → part < part_count shape → P shape part
each_part P a b c d e f g h i zero part s p = below_1 (P 0) a part p
each_part P a b c d e f g h i (suc zero) part s p = below_2 (P 1) b c part p
each_part P a b c d e f g h i (suc (suc zero)) part s p = below_2 (P 2) d e part p
each_part P a b c d e f g h i (suc (suc (suc zero))) part s p = below_4 (P 3) f g h i part p
each_part P a b c d e f g h i (suc (suc (suc (suc n)))) part s p = absurd (omega arith)

-- an own block that an increment looks at begins an earlier partition
pub record Earlier (shape part k : ℕ) : Type 0 where
  pub before : part_of shape k < part
  pub begins : first_block shape (part_of shape k) ≡ k
  pub small : k < 4

pub left_earlier : (shape part : ℕ) → shape < 4 → part < part_count shape → (first_block shape part % 2 == 0) ≡ false → Earlier shape part (left_block2 (first_block shape part))
left_earlier = each_part (λ shape part. (first_block shape part % 2 == 0) ≡ false → Earlier shape part (left_block2 (first_block shape part)))
    (λ e. absurd cc) (λ e. absurd cc) (λ e. absurd cc) (λ e. absurd cc) (λ e. record { before = omega arith; begins = refl; small = omega arith })
    (λ e. absurd cc) (λ e. record { before = omega arith; begins = refl; small = omega arith }) (λ e. absurd cc) (λ e. record { before = omega arith; begins = refl; small = omega arith })

pub above_earlier : (shape part : ℕ) → shape < 4 → part < part_count shape → (first_block shape part / 2 == 0) ≡ false → Earlier shape part (above_block2 (first_block shape part))
above_earlier = each_part (λ shape part. (first_block shape part / 2 == 0) ≡ false → Earlier shape part (above_block2 (first_block shape part)))
    (λ e. absurd cc) (λ e. absurd cc) (λ e. record { before = omega arith; begins = refl; small = omega arith }) (λ e. absurd cc) (λ e. absurd cc)
    (λ e. absurd cc) (λ e. absurd cc) (λ e. record { before = omega arith; begins = refl; small = omega arith }) (λ e. record { before = omega arith; begins = refl; small = omega arith })

-- ---- what a sketch shows

sketch_ref : (kind : MbKind) (refs : List ℤ) (mvds : List Vector) (list k : ℕ) → list < 2 → k < 4 → ref_of (sketch kind refs mvds) list k ≡ ref_in (shape_of kind) refs k
unfolding sketch blank_record
sketch_ref kind refs mvds list k l h =
    below_2 (λ list. (k : ℕ) → k < 4 → ref_of (sketch kind refs mvds) list k ≡ ref_in (shape_of kind) refs k)
    (below_4 (λ k. ref_of (sketch kind refs mvds) 0 k ≡ ref_in (shape_of kind) refs k) refl refl refl refl)
    (below_4 (λ k. ref_of (sketch kind refs mvds) 1 k ≡ ref_in (shape_of kind) refs k) refl refl refl refl) list l k h

sketch_mvd : (kind : MbKind) (refs : List ℤ) (mvds : List Vector) (list k : ℕ) → list < 2 → k < 4 → difference_of (sketch kind refs mvds) list k ≡ vector_in (shape_of kind) mvds k
unfolding sketch blank_record
sketch_mvd kind refs mvds list k l h =
    below_2 (λ list. (k : ℕ) → k < 4 → difference_of (sketch kind refs mvds) list k ≡ vector_in (shape_of kind) mvds k)
    (below_4 (λ k. difference_of (sketch kind refs mvds) 0 k ≡ vector_in (shape_of kind) mvds k) refl refl refl refl)
    (below_4 (λ k. difference_of (sketch kind refs mvds) 1 k ≡ vector_in (shape_of kind) mvds k) refl refl refl refl) list l k h

-- of a record as far as a partition, at the blocks that increments look at
ref_there : (mb : MbRecord) (mvds : List Vector) (list part n k : ℕ) → list < 2 → part ≤ n → Earlier (shape_of mb.kind) part k → ref_of (sketch mb.kind (by_part (part_ref mb list) n) mvds) list k ≡ ref_of mb list k
ref_there mb mvds list part n k l le h =
    sketch_ref mb.kind (by_part (part_ref mb list) n) mvds list k l h.small
    ∙ by_at (part_ref mb list) n (part_of (shape_of mb.kind) k) (negsuc 0) (omega (arith, h.before)) ∙ ap (λ j. ref_of mb list j) h.begins

mvd_there : (mb : MbRecord) (refs : List ℤ) (list part k : ℕ) → list < 2 → Earlier (shape_of mb.kind) part k → difference_of (sketch mb.kind refs (by_part (part_mvd mb list) part)) list k ≡ difference_of mb list k
mvd_there mb refs list part k l h =
    sketch_mvd mb.kind refs (by_part (part_mvd mb list) part) list k l h.small
    ∙ by_at (part_mvd mb list) part (part_of (shape_of mb.kind) k) zero_vector h.before ∙ ap (λ j. difference_of mb list j) h.begins

-- ---- increments

sketch_kind : (kind : MbKind) (refs : List ℤ) (mvds : List Vector) → (sketch kind refs mvds).kind ≡ kind
unfolding sketch blank_record
sketch_kind kind refs mvds = refl

flag_same : (r mb : MbRecord) (list k : ℕ) (outside : Bool) (n : Option MbRecord) → r.kind ≡ mb.kind → (outside ≡ false → ref_of r list k ≡ ref_of mb list k)
    → ref_flag list k (cond outside n (Some r)) ≡ ref_flag list k (cond outside n (Some mb))
flag_same r mb list k true n e h = refl
flag_same r mb list k false n e h = rw (h refl, e) refl

pub ref_inc_same : (mb : MbRecord) (left above : Option MbRecord) (list part : ℕ) → list < 2 → part < part_count (shape_of mb.kind)
    → inc_ref (sketch mb.kind (by_part (part_ref mb list) part) []) left above list (first_block (shape_of mb.kind) part) ≡ inc_ref mb left above list (first_block (shape_of mb.kind) part)
unfolding inc_ref
ref_inc_same mb left above list part l lt =
    let r = sketch mb.kind (by_part (part_ref mb list) part) [] in
    let k = first_block (shape_of mb.kind) part in
    let s = shape_small mb.kind in
    let a = flag_same r mb list (left_block2 k) (k % 2 == 0) left (sketch_kind mb.kind _ _) (λ e. ref_there mb [] list part part (left_block2 k) l (omega arith) (left_earlier (shape_of mb.kind) part s lt e)) in
    let b = flag_same r mb list (above_block2 k) (k / 2 == 0) above (sketch_kind mb.kind _ _) (λ e. ref_there mb [] list part part (above_block2 k) l (omega arith) (above_earlier (shape_of mb.kind) part s lt e)) in
    ap (λ x. weight x + 2 * weight (ref_flag list (above_block2 k) (above_holder2 r above k))) a ∙ ap (λ x. weight (ref_flag list (left_block2 k) (left_holder2 mb left k)) + 2 * weight x) b

size_same : (r mb : MbRecord) (list k : ℕ) (vertical outside : Bool) (n : Option MbRecord) → r.kind ≡ mb.kind → (outside ≡ false → ref_of r list k ≡ ref_of mb list k) → (outside ≡ false → difference_of r list k ≡ difference_of mb list k)
    → mvd_size list k vertical (cond outside n (Some r)) ≡ mvd_size list k vertical (cond outside n (Some mb))
size_same r mb list k vertical true n e h g = refl
size_same r mb list k vertical false n e h g = rw (h refl, g refl, e) refl

pub mvd_inc_same : (mb : MbRecord) (left above : Option MbRecord) (list part : ℕ) (vertical : Bool) → list < 2 → part < part_count (shape_of mb.kind)
    → inc_mvd (sketch mb.kind (by_part (part_ref mb list) (part_count (shape_of mb.kind))) (by_part (part_mvd mb list) part)) left above list (first_block (shape_of mb.kind) part) vertical
    ≡ inc_mvd mb left above list (first_block (shape_of mb.kind) part) vertical
unfolding inc_mvd
mvd_inc_same mb left above list part vertical l lt =
    let refs = by_part (part_ref mb list) (part_count (shape_of mb.kind)) in
    let mvds = by_part (part_mvd mb list) part in
    let r = sketch mb.kind refs mvds in
    let k = first_block (shape_of mb.kind) part in
    let s = shape_small mb.kind in
    let a = size_same r mb list (left_block2 k) vertical (k % 2 == 0) left (sketch_kind mb.kind refs mvds)
    (λ e. ref_there mb mvds list part (part_count (shape_of mb.kind)) (left_block2 k) l (omega arith) (left_earlier (shape_of mb.kind) part s lt e)) (λ e. mvd_there mb refs list part (left_block2 k) l (left_earlier (shape_of mb.kind) part s lt e)) in
    let b = size_same r mb list (above_block2 k) vertical (k / 2 == 0) above (sketch_kind mb.kind refs mvds)
    (λ e. ref_there mb mvds list part (part_count (shape_of mb.kind)) (above_block2 k) l (omega arith) (above_earlier (shape_of mb.kind) part s lt e)) (λ e. mvd_there mb refs list part (above_block2 k) l (above_earlier (shape_of mb.kind) part s lt e)) in
    ap (λ x. mvd_class (x + mvd_size list (above_block2 k) vertical (above_holder2 r above k))) a ∙ ap (λ x. mvd_class (mvd_size list (left_block2 k) vertical (left_holder2 mb left k) + x)) b
