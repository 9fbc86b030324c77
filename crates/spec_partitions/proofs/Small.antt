-- Predicted vectors, skip motion and direct motion are no longer than the neighbours' vectors.
use Rattle.std.proofs.Common.{ℕ, ◌≤◌, Bool, true, false, cond, arith}
use Rattle.std.specs.Prelude.{ℤ, pos, nat_abs, nat_eq, None, int_lt, ◌&&◌, is_some}
use Rattle.std.specs.Int.{int_max, int_min}
use Rattle.std.specs.Ordering.{int_eq}
use Rattle.enc_tables.specs.declared.records.Vector.{Vector}
use Rattle.enc_tables.specs.Records.{zero_vector}
use Rattle.spec_motion.specs.declared.Field.{Field}
use Rattle.spec_motion.specs.Neighbours.{vector_of, has}
use Rattle.spec_motion.specs.Prediction.{median, is_alone, only, favoured, predicted}
use Rattle.spec_motion.specs.Skip.{has_no_motion, skip_vector}
use Rattle.spec_motion.specs.Direct.{direct_vector}
use Rattle.spec_partitions.specs.Small.{Small, FieldSmall}

pub zero_small : (b : ℕ) → Small b zero_vector
zero_small b = record { across = omega arith; down = omega arith }

pub pick : (t : Bool) {b : ℕ} {v w : Vector} → Small b v → Small b w → Small b (cond t v w)
pick true h k = h
pick false h k = k

of_two : (t : Bool) (b : ℕ) (x y : ℤ) → nat_abs x ≤ b → nat_abs y ≤ b → nat_abs (cond t x y) ≤ b
of_two true b x y h k = h
of_two false b x y h k = k

min_small : (b : ℕ) (x y : ℤ) → nat_abs x ≤ b → nat_abs y ≤ b → nat_abs (int_min x y) ≤ b
min_small b x y h k = of_two (int_lt y x) b y x k h

max_small : (b : ℕ) (x y : ℤ) → nat_abs x ≤ b → nat_abs y ≤ b → nat_abs (int_max x y) ≤ b
max_small b x y h k = of_two (int_lt y x) b x y h k

median_small : (b : ℕ) (x y z : ℤ) → nat_abs x ≤ b → nat_abs y ≤ b → nat_abs z ≤ b → nat_abs (median x y z) ≤ b
median_small b x y z h k l = max_small b (int_min x y) (int_min (int_max x y) z) (min_small b x y h k) (min_small b (int_max x y) z (max_small b x y h k) l)

favoured_small : (p q r s : Bool) (b list : ℕ) (f : Field) → FieldSmall b list f → Small b (vector_of list (cond p (cond q f.b f.a) (cond r (cond s f.a f.c) None)))
favoured_small true true r s b list f h = h.b
favoured_small true false r s b list f h = h.a
favoured_small false q true true b list f h = h.a
favoured_small false q true false b list f h = h.c
favoured_small false q false s b list f h = zero_small b

pub predicted_small : (shape part list : ℕ) (r : ℤ) (b : ℕ) (f : Field) → FieldSmall b list f → Small b (predicted shape part list r f)
predicted_small shape part list r b f h =
    pick (is_some (favoured shape part f) && has list r (favoured shape part f)) (favoured_small (nat_eq shape 1) (nat_eq part 0) (nat_eq shape 2) (nat_eq part 0) b list f h)
    (pick (is_alone f) h.a
    (pick (only (has list r f.a) (has list r f.b) (has list r f.c)) h.a
    (pick (only (has list r f.b) (has list r f.a) (has list r f.c)) h.b
    (pick (only (has list r f.c) (has list r f.a) (has list r f.b)) h.c
    (record {
      across = median_small b (vector_of list f.a).x (vector_of list f.b).x (vector_of list f.c).x h.a.across h.b.across h.c.across;
      down = median_small b (vector_of list f.a).y (vector_of list f.b).y (vector_of list f.c).y h.a.down h.b.down h.c.down;
    })))))

pub skip_small : (b : ℕ) (f : Field) → FieldSmall b 0 f → Small b (skip_vector f)
skip_small b f h = pick (has_no_motion f) (zero_small b) (predicted_small 0 0 0 (pos 0) b f h)

pub direct_small : (list : ℕ) (r : ℤ) (still : Bool) (b : ℕ) (f : Field) → FieldSmall b list f → Small b (direct_vector list r still f)
direct_small list r still b f h = pick (int_lt r (pos 0)) (zero_small b) (pick (int_eq r (pos 0) && still) (zero_small b) (predicted_small 0 0 list r b f h))
