-- Vector differences: they bring the prediction back to the vector, and are small where vectors and predictions are.
use Rattle.std.proofs.Common.{◌≡◌, ◌≤◌, ◌<◌, ◌+◌, ◌+ℤ◌, ◌-ℤ◌, ℕ, ℤ, pos, negsuc, Bool, true, false, cond, List, get_or, Option, Some, None, sym, ap, ap₂, ◌∙◌, subst, arith}
use Rattle.std.specs.Prelude.{nat_abs, nat_lt}
use Rattle.std.proofs.lemmas.Int.{ints}
use Rattle.enc_tables.specs.declared.records.Motion.{Motion}
use Rattle.enc_tables.specs.declared.records.Vector.{Vector}
use Rattle.enc_tables.specs.Records.{zero_vector, no_motion, is_used}
use Rattle.spec_motion.specs.declared.Field.{Field}
use Rattle.spec_motion.specs.Prediction.{predicted}
use Rattle.spec_basics.specs.Bounds.{Within}
use Rattle.spec_syntax.proofs.Elements.{below_4}
use Rattle.spec_partitions.specs.Near.{View}
use Rattle.spec_partitions.specs.Partitions.{part_count, part_of, by_part, block_motion}
use Rattle.spec_partitions.specs.Derived.{part_field, plus, known_block, known_blocks, IsVector, given}
use Rattle.spec_partitions.proofs.ByPart.{by_at, each_part}
use Rattle.spec_partitions.proofs.Coded.{part_inside}
use Rattle.spec_partitions.specs.Small.{Small, FieldSmall, BlockSmall, AllSmall, ViewSmall}
use Rattle.spec_partitions.proofs.Small.{zero_small, pick, predicted_small}
use Rattle.spec_partitions.proofs.SmallVectors.{says, either_says}
use Rattle.spec_coded.specs.Planned.{minus, coded_difference}

-- ---- a prediction and its difference make the vector

there : (x p : ℤ) → x ≡ (p +ℤ (x -ℤ p))
there x p = omega (arith, ints)

make : ℤ → ℤ → Vector
make x y = record { x = x; y = y }

pub plus_minus : (v p : Vector) → v ≡ plus p (minus v p)
unfolding make
plus_minus v p = ap₂ make (there v.x p.x) (there v.y p.y)

pub is_vector : (view : View) (shape : ℕ) (motion : List Motion) (list : ℕ) (r : ℕ → ℤ) (v : ℕ → Vector) (part : ℕ) → (is_used (r part) ≡ false → v part ≡ zero_vector)
    → IsVector view shape motion list part (r part) (v part) (coded_difference view shape motion list r v part)
unfolding coded_difference
is_vector view shape motion list r v part none =
    let p = predicted shape part list (r part) (part_field view (known_blocks shape motion part) shape part) in
    record {
      used = λ e. plus_minus (v part) p ∙ ap (λ b. plus p (cond b (minus (v part) p) zero_vector)) (sym e);
      unused = none;
    }

-- ---- sizes

within_abs : (m : ℕ) (z : ℤ) → nat_abs z ≤ m → Within m z
within_abs m (pos n) h = record { low = omega (arith, ints); high = omega (arith, ints) }
within_abs m (negsuc n) h = record { low = omega (arith, ints); high = omega (arith, ints) }

abs_within : (m : ℕ) (z : ℤ) → Within m z → nat_abs z ≤ m
abs_within m (pos n) w = omega (arith, ints, w.high)
abs_within m (negsuc n) w = omega (arith, ints, w.low)

minus_within : (a b : ℕ) (x y : ℤ) → Within a x → Within b y → Within (a + b) (x -ℤ y)
minus_within a b x y v w = record { low = omega (arith, ints); high = omega (arith, ints) }

abs_minus : (a b : ℕ) (x y : ℤ) → nat_abs x ≤ a → nat_abs y ≤ b → nat_abs (x -ℤ y) ≤ a + b
abs_minus a b x y h k = abs_within (a + b) (x -ℤ y) (minus_within a b x y (within_abs a x h) (within_abs b y k))

pub minus_small : (a b : ℕ) (v w : Vector) → Small a v → Small b w → Small (a + b) (minus v w)
minus_small a b v w h k = record { across = abs_minus a b v.x w.x h.across k.across; down = abs_minus a b v.y w.y h.down k.down }

-- ---- the field of a partition: blocks of the macroblocks around, and own ones of earlier partitions

known_small : (most shape : ℕ) (motion : List Motion) (part k : ℕ) → AllSmall most motion → k < 4 → BlockSmall most (known_block shape motion part k)
known_small most shape motion part k h lt = go (nat_lt (part_of shape k) part)
  where
    go : (b : Bool) → BlockSmall most (cond b (Some (get_or motion k no_motion)) None)
    go true = h.at k lt
    go false = record { first = zero_small most; second = zero_small most }

record OwnSmall (most : ℕ) (own : List (Option Motion)) : Type 0 where
  at : (k : ℕ) → k < 4 → BlockSmall most (get_or own k None)

all_known : (most shape : ℕ) (motion : List Motion) (part : ℕ) → AllSmall most motion → OwnSmall most (known_blocks shape motion part)
all_known most shape motion part h =
    let at = λ (k : ℕ). known_small most shape motion part k h in
    record { at = below_4 (λ k. BlockSmall most (get_or (known_blocks shape motion part) k None)) (at 0 (omega arith)) (at 1 (omega arith)) (at 2 (omega arith)) (at 3 (omega arith)) }

-- what the three blocks say in both lists
record FieldBlocks (most : ℕ) (f : Field) : Type 0 where
  a : BlockSmall most f.a
  b : BlockSmall most f.b
  c : BlockSmall most f.c

blocks_small : (most : ℕ) (view : View) (own : List (Option Motion)) → ViewSmall most view → OwnSmall most own → (shape part : ℕ) → shape < 4 → part < part_count shape → FieldBlocks most (part_field view own shape part)
blocks_small most view own v o =
    let left1 = says most view.near.left 1 (omega arith) v.left in
    let left3 = says most view.near.left 3 (omega arith) v.left in
    let above2 = says most view.near.above 2 (omega arith) v.above in
    let above3 = says most view.near.above 3 (omega arith) v.above in
    let right2 = says most view.above_right 2 (omega arith) v.above_right in
    let corner3 = says most view.above_left 3 (omega arith) v.above_left in
    let own0 = o.at 0 (omega arith) in
    let own1 = o.at 1 (omega arith) in
    let own2 = o.at 2 (omega arith) in
    each_part (λ shape part. FieldBlocks most (part_field view own shape part))
    (record { a = left1; b = above2; c = either_says most _ _ right2 corner3 })
    (record { a = left1; b = above2; c = either_says most _ _ right2 corner3 })
    (record { a = left3; b = own0; c = left1 })
    (record { a = left1; b = above2; c = either_says most _ _ above3 corner3 })
    (record { a = own0; b = above3; c = either_says most _ _ right2 above2 })
    (record { a = left1; b = above2; c = either_says most _ _ above3 corner3 })
    (record { a = own0; b = above3; c = either_says most _ _ right2 above2 })
    (record { a = left3; b = own0; c = either_says most _ _ own1 left1 })
    (record { a = own2; b = own1; c = own0 })

in_first : (most : ℕ) (f : Field) → FieldBlocks most f → FieldSmall most 0 f
in_first most f h = record { a = h.a.first; b = h.b.first; c = h.c.first }

in_second : (most : ℕ) (f : Field) → FieldBlocks most f → FieldSmall most 1 f
in_second most f h = record { a = h.a.second; b = h.b.second; c = h.c.second }

-- ---- the differences of a coded macroblock

pub difference_small : (most list shape part : ℕ) (view : View) (motion : List Motion) (r : ℕ → ℤ) (v : ℕ → Vector)
    → FieldSmall most list (part_field view (known_blocks shape motion part) shape part) → Small most (v part)
    → Small (most + most) (coded_difference view shape motion list r v part)
unfolding coded_difference
difference_small most list shape part view motion r v f h = go (is_used (r part))
  where
    go : (b : Bool) → Small (most + most) (cond b (minus (v part) (predicted shape part list (r part) (part_field view (known_blocks shape motion part) shape part))) zero_vector)
    go true = minus_small most most _ _ h (predicted_small shape part list (r part) most _ f)
    go false = zero_small (most + most)

pub first_small : (most : ℕ) (view : View) (motion : List Motion) (r : ℕ → ℤ) (v : ℕ → Vector) → ViewSmall most view → AllSmall most motion
    → (shape part : ℕ) → shape < 4 → part < part_count shape → Small most (v part) → Small (most + most) (coded_difference view shape motion 0 r v part)
first_small most view motion r v s a shape part lt inside h =
    difference_small most 0 shape part view motion r v (in_first most _ (blocks_small most view (known_blocks shape motion part) s (all_known most shape motion part a) shape part lt inside)) h

pub second_small : (most : ℕ) (view : View) (motion : List Motion) (r : ℕ → ℤ) (v : ℕ → Vector) → ViewSmall most view → AllSmall most motion
    → (shape part : ℕ) → shape < 4 → part < part_count shape → Small most (v part) → Small (most + most) (coded_difference view shape motion 1 r v part)
second_small most view motion r v s a shape part lt inside h =
    difference_small most 1 shape part view motion r v (in_second most _ (blocks_small most view (known_blocks shape motion part) s (all_known most shape motion part a) shape part lt inside)) h

-- ---- the blocks of partitions whose vectors are small

pub given_small : (most shape : ℕ) (r0 r1 : ℕ → ℤ) (v0 v1 : ℕ → Vector) → shape < 4 → ((part : ℕ) → part < part_count shape → Small most (v0 part)) → ((part : ℕ) → part < part_count shape → Small most (v1 part))
    → AllSmall most (given shape r0 r1 v0 v1)
given_small most shape r0 r1 v0 v1 s h k =
    let n = part_count shape in
    let one : (i : ℕ) → i < 4 → Small most (get_or (by_part v0 n) (part_of shape i) zero_vector) = λ i lt. let inside = part_inside shape i s lt in subst (λ x. Small most x) (sym (by_at v0 n (part_of shape i) zero_vector inside)) (h (part_of shape i) inside) in
    let two : (i : ℕ) → i < 4 → Small most (get_or (by_part v1 n) (part_of shape i) zero_vector) = λ i lt. let inside = part_inside shape i s lt in subst (λ x. Small most x) (sym (by_at v1 n (part_of shape i) zero_vector inside)) (k (part_of shape i) inside) in
    let block : (i : ℕ) → i < 4 → BlockSmall most (Some (block_motion shape (by_part r0 n) (by_part r1 n) (by_part v0 n) (by_part v1 n) i)) = λ i lt. record { first = pick _ (zero_small most) (one i lt); second = pick _ (zero_small most) (two i lt) } in
    record { at = below_4 (λ i. BlockSmall most (Some (get_or (given shape r0 r1 v0 v1) i no_motion))) (block 0 (omega arith)) (block 1 (omega arith)) (block 2 (omega arith)) (block 3 (omega arith)) }
