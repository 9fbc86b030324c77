-- The motion and the differences that a plan asks for.
use Rattle.std.proofs.Common.{◌≡◌, ◌<◌, ◌+◌, ◌++◌, ℕ, ℤ, negsuc, Bool, true, false, cond, List, [], ◌∷◌, length, get_or, take, drop, append-nil, set, inl, inr, Some, refl, sym, ap, ap₂, subst, ◌∙◌, arith}
use Rattle.std.proofs.lemmas.Bool.{cases_lt}
use Rattle.std.proofs.lemmas.Grind.{common_steps, get_or-set_at}
use Rattle.std.proofs.lemmas.List.{get_or-set_other}
use Rattle.enc_tables.specs.declared.records.MbKind.{MbKind}
use Rattle.enc_tables.specs.declared.records.MbPlan.{MbPlan}
use Rattle.enc_tables.specs.declared.records.MbRecord.{MbRecord}
use Rattle.enc_tables.specs.declared.records.Motion.{Motion}
use Rattle.enc_tables.specs.declared.records.Vector.{Vector}
use Rattle.enc_tables.specs.Records.{zero_vector, no_motion, is_used, blank_record}
use Rattle.spec_motion.specs.declared.Field.{Field}
use Rattle.spec_motion.specs.Prediction.{predicted}
use Rattle.spec_syntax.proofs.Elements.{below_4}
use Rattle.spec_partitions.specs.Near.{View}
use Rattle.spec_partitions.specs.Partitions.{shape_of, part_count, part_of, by_part, block_motion, four_vectors}
use Rattle.spec_partitions.specs.Derived.{part_field, known_blocks, given_mvd}
use Rattle.spec_partitions.specs.InRange.{MotionFits, AllFit}
use Rattle.spec_partitions.specs.Small.{BlockSmall, AllSmall}
use Rattle.spec_partitions.proofs.ByPart.{by_at, each_part}
use Rattle.spec_partitions.proofs.Coded.{part_inside}
use Rattle.spec_coded.specs.Planned.{plan_place, planned_part, planned_ref, planned_vector, planned_motion, planned_difference, coded_difference, minus, planned}
use Rattle.inter_coder.specs.Beside.{PlanFits, PlanSmall}

-- ---- places

pub place_small : (shape part : ℕ) → shape < 4 → part < part_count shape → plan_place shape part < 9
place_small = each_part (λ shape part. plan_place shape part < 9)
    (omega arith) (omega arith) (omega arith) (omega arith) (omega arith) (omega arith) (omega arith) (omega arith) (omega arith)

pub part_small : (most : ℕ) (plan : MbPlan) (shape part : ℕ) (m : Motion) → shape < 4 → part < part_count shape → m ≡ planned_part plan shape part → PlanSmall most plan → BlockSmall most (Some m)
part_small most plan shape part m s p e h = subst (λ x. BlockSmall most (Some x)) (sym e) (h.at (plan_place shape part) (place_small shape part s p))

pub part_fits : (entries0 entries1 : ℕ) (plan : MbPlan) (shape part : ℕ) (m : Motion) → shape < 4 → part < part_count shape → m ≡ planned_part plan shape part → PlanFits entries0 entries1 plan → MotionFits entries0 entries1 m
part_fits entries0 entries1 plan shape part m s p e h = subst (λ x. MotionFits entries0 entries1 x) (sym e) (h.at (plan_place shape part) (place_small shape part s p))

-- ---- the four 8x8 blocks

two : {A : Type 0} (xs : List A) (d : A) → length xs ≡ 2 → xs ≡ get_or xs 0 d ∷ get_or xs 1 d ∷ []
two [] d e = absurd (omega (arith, e))
two (x ∷ []) d e = absurd (omega (arith, e))
two (x ∷ y ∷ []) d e = refl
two (x ∷ y ∷ z ∷ zs) d e = absurd (omega (arith, e))

abbrev make : ℤ → ℤ → Vector → Vector → Motion
make r s v w = record { refs = r ∷ s ∷ []; vectors = v ∷ w ∷ [] }

make_same : (r s r' s' : ℤ) (v w v' w' : Vector) → r ≡ r' → s ≡ s' → v ≡ v' → w ≡ w' → make r s v w ≡ make r' s' v' w'
make_same r s r' s' v w v' w' a b c d = rw (a, b, c, d) refl

as_made : (m : Motion) → length m.refs ≡ 2 → length m.vectors ≡ 2 → m ≡ make (get_or m.refs 0 (negsuc 0)) (get_or m.refs 1 (negsuc 0)) (get_or m.vectors 0 zero_vector) (get_or m.vectors 1 zero_vector)
as_made m e f = ap₂ (λ (r : List ℤ) (v : List Vector). let x : Motion = record { refs = r; vectors = v } in x) (two m.refs (negsuc 0) e) (two m.vectors zero_vector f)

pub block_is : (plan : MbPlan) (shape k : ℕ) (m : Motion) → shape < 4 → k < 4 → length m.refs ≡ 2 → length m.vectors ≡ 2 → m ≡ planned_part plan shape (part_of shape k)
    → m ≡ block_motion shape (by_part (planned_ref plan shape 0) (part_count shape)) (by_part (planned_ref plan shape 1) (part_count shape)) (by_part (planned_vector plan shape 0) (part_count shape)) (by_part (planned_vector plan shape 1) (part_count shape)) k
block_is plan shape k m s lt e f is =
    let n = part_count shape in
    let p = part_of shape k in
    let inside = part_inside shape k s lt in
    as_made m e f
    ∙ make_same _ _ _ _ _ _ _ _
    (ap (λ (x : Motion). get_or x.refs 0 (negsuc 0)) is ∙ sym (by_at (planned_ref plan shape 0) n p (negsuc 0) inside))
    (ap (λ (x : Motion). get_or x.refs 1 (negsuc 0)) is ∙ sym (by_at (planned_ref plan shape 1) n p (negsuc 0) inside))
    (ap (λ (x : Motion). get_or x.vectors 0 zero_vector) is ∙ sym (by_at (planned_vector plan shape 0) n p zero_vector inside))
    (ap (λ (x : Motion). get_or x.vectors 1 zero_vector) is ∙ sym (by_at (planned_vector plan shape 1) n p zero_vector inside))

pub four_same : {A : Type 0} (a b c d a' b' c' d' : A) → a ≡ a' → b ≡ b' → c ≡ c' → d ≡ d' → (a ∷ b ∷ c ∷ d ∷ []) ≡ (a' ∷ b' ∷ c' ∷ d' ∷ [])
four_same a b c d a' b' c' d' ha hb hc hd = rw (ha, hb, hc, hd) refl

pub all_small : (most : ℕ) (a b c d : Motion) → BlockSmall most (Some a) → BlockSmall most (Some b) → BlockSmall most (Some c) → BlockSmall most (Some d) → AllSmall most (a ∷ b ∷ c ∷ d ∷ [])
all_small most a b c d ha hb hc hd = record { at = below_4 (λ k. BlockSmall most (Some (get_or (a ∷ b ∷ c ∷ d ∷ []) k no_motion))) ha hb hc hd }

pub all_fit : (entries0 entries1 : ℕ) (a b c d : Motion) → MotionFits entries0 entries1 a → MotionFits entries0 entries1 b → MotionFits entries0 entries1 c → MotionFits entries0 entries1 d → AllFit entries0 entries1 (a ∷ b ∷ c ∷ d ∷ [])
all_fit entries0 entries1 a b c d ha hb hc hd = record { at = below_4 (λ k. MotionFits entries0 entries1 (get_or (a ∷ b ∷ c ∷ d ∷ []) k no_motion)) ha hb hc hd }

-- ---- differences

where_true : (b : Bool) (v w : Vector) → b ≡ true → v ≡ cond b v w
where_true true v w e = refl
where_true false v w e = absurd cc

where_false : (b : Bool) (v w : Vector) → b ≡ false → w ≡ cond b v w
where_false false v w e = refl
where_false true v w e = absurd cc

module _ (view : View) (plan : MbPlan) (shape list part : ℕ) (m : Motion) where
  pub difference_used : (motion : List Motion) (f : Field) (r : ℤ) (v p : Vector) → m ≡ planned_part plan shape part → is_used (get_or m.refs list (negsuc 0)) ≡ true → motion ≡ planned_motion plan shape
      → f ≡ part_field view (known_blocks shape motion part) shape part → r ≡ get_or m.refs list (negsuc 0) → v ≡ get_or m.vectors list zero_vector → p ≡ predicted shape part list r f
      → minus v p ≡ planned_difference view plan shape list part
  unfolding coded_difference
  difference_used motion f r v p is used e ef er ev ep =
      let r_is : r ≡ planned_ref plan shape list part = er ∙ ap (λ (x : Motion). get_or x.refs list (negsuc 0)) is in
      let v_is : v ≡ planned_vector plan shape list part = ev ∙ ap (λ (x : Motion). get_or x.vectors list zero_vector) is in
      let f_is : f ≡ part_field view (known_blocks shape (planned_motion plan shape) part) shape part = ef ∙ ap (λ (ms : List Motion). part_field view (known_blocks shape ms part) shape part) e in
      ap₂ (λ (x y : Vector). minus x y) v_is (ep ∙ ap₂ (λ (x : ℤ) (g : Field). predicted shape part list x g) r_is f_is)
      ∙ where_true _ _ zero_vector (sym (ap (λ (x : Motion). is_used (get_or x.refs list (negsuc 0))) is) ∙ used)

  pub difference_unused : m ≡ planned_part plan shape part → is_used (get_or m.refs list (negsuc 0)) ≡ false → zero_vector ≡ planned_difference view plan shape list part
  unfolding coded_difference
  difference_unused is unused = where_false _ _ zero_vector (sym (ap (λ (x : Motion). is_used (get_or x.refs list (negsuc 0))) is) ∙ unused)

-- one more
pub vector_next : (d : ℕ → Vector) (vs : List Vector) (i : ℕ) (v : Vector) → i < length vs → v ≡ d i → ((k : ℕ) → k < i → get_or vs k zero_vector ≡ d k) → (k : ℕ) → k < i + 1 → get_or (set vs i v) k zero_vector ≡ d k
vector_next d vs i v inside is done k h =
    elim (cases_lt k i) [
      | inl l ↦ get_or-set_other vs i k v zero_vector (λ z. absurd (omega arith)) ∙ done k l
      | inr g ↦ (let e : k ≡ i = omega arith in get_or-set_at vs i k v zero_vector e inside ∙ is ∙ ap d (sym e))
    ]

pub vector_there : (d : ℕ → Vector) (vs : List Vector) (shape k : ℕ) (v : Vector) → shape < 4 → k < 4 → ((part : ℕ) → part < part_count shape → get_or vs part zero_vector ≡ d part) → v ≡ get_or vs (part_of shape k) zero_vector
    → v ≡ get_or (by_part d (part_count shape)) (part_of shape k) zero_vector
vector_there d vs shape k v s lt h e = let inside = part_inside shape k s lt in e ∙ h (part_of shape k) inside ∙ sym (by_at d (part_count shape) (part_of shape k) zero_vector inside)

-- a second half written over zeros
pub vectors_beside : (n : ℕ) (u v zeros first second : List Vector) → u ≡ first → v ≡ second → length first ≡ n → length zeros ≡ n → take n (u ++ zeros) ++ (v ++ drop n (drop n (u ++ zeros))) ≡ first ++ second
vectors_beside n u v zeros first second e f h k =
    let long : length u ≡ n = ap (λ (l : List Vector). length l) e ∙ h in
    let front : take n (u ++ zeros) ≡ u = grind (arith, common_steps) in
    let back : drop n (drop n (u ++ zeros)) ≡ [] = grind (arith, common_steps) in
    ap₂ (λ (a b : List Vector). a ++ (v ++ b)) front back ∙ ap (λ (l : List Vector). u ++ l) (append-nil v) ∙ ap₂ (λ (a b : List Vector). a ++ b) e f

-- ---- the record

module _ (view : View) (plan : MbPlan) (kind : MbKind) (qp shape : ℕ) where
  pub planned_is : (r : MbRecord) (motion : List Motion) (first second mvd : List Vector) → shape ≡ shape_of kind → r ≡ blank_record kind qp → motion ≡ planned_motion plan shape
      → first ≡ four_vectors shape (by_part (planned_difference view plan shape 0) (part_count shape)) → second ≡ four_vectors shape (by_part (planned_difference view plan shape 1) (part_count shape)) → mvd ≡ first ++ second
      → (let mb : MbRecord = record r { motion = motion; mvd = mvd } in mb) ≡ planned view plan kind qp
  unfolding planned
  planned_is r motion first second mvd e er em ef es ed =
      ap (λ (b : MbRecord). let mb : MbRecord = record b { motion = motion; mvd = mvd } in mb) er
      ∙ ap₂ (λ (ms : List Motion) (vs : List Vector). let mb : MbRecord = record (blank_record kind qp) { motion = ms; mvd = vs } in mb) em (ed ∙ ap₂ (λ (a b : List Vector). a ++ b) ef es)
      ∙ ap (λ (n : ℕ). let mb : MbRecord = record (blank_record kind qp) { motion = planned_motion plan n; mvd = given_mvd n (planned_difference view plan n 0) (planned_difference view plan n 1) } in mb) e
