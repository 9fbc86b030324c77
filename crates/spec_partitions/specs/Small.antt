-- Vectors of a size, in quarter samples.
use Rattle.std.specs.Prelude.{ℕ, ◌≤◌, ◌<◌, List, get_or, Option, Some, None, nat_abs}
use Rattle.enc_tables.specs.declared.records.MbRecord.{MbRecord}
use Rattle.enc_tables.specs.declared.records.Motion.{Motion}
use Rattle.enc_tables.specs.declared.records.Vector.{Vector}
use Rattle.enc_tables.specs.Records.{no_motion}
use Rattle.spec_motion.specs.declared.Field.{Field}
use Rattle.spec_motion.specs.Neighbours.{vector_of}
use Rattle.spec_partitions.specs.Near.{View}

-- a vector whose components are at most so long
pub record Small (b : ℕ) (v : Vector) : Type 0 where
  pub across : nat_abs v.x ≤ b
  pub down : nat_abs v.y ≤ b

-- the vectors of one list beside a partition
pub record FieldSmall (most : ℕ) (list : ℕ) (f : Field) : Type 0 where
  pub a : Small most (vector_of list f.a)
  pub b : Small most (vector_of list f.b)
  pub c : Small most (vector_of list f.c)

-- the vectors of a block, of a macroblock's blocks, and of one that may not be available
pub record BlockSmall (most : ℕ) (m : Option Motion) : Type 0 where
  pub first : Small most (vector_of 0 m)
  pub second : Small most (vector_of 1 m)

pub record AllSmall (most : ℕ) (motion : List Motion) : Type 0 where
  pub at : (k : ℕ) → k < 4 → BlockSmall most (Some (get_or motion k no_motion))

unfoldable pub NearSmall : ℕ → Option MbRecord → Type 0
NearSmall most None = Unit {0}
NearSmall most (Some n) = AllSmall most n.motion

pub record ViewSmall (most : ℕ) (view : View) : Type 0 where
  pub left : NearSmall most view.near.left
  pub above : NearSmall most view.near.above
  pub above_right : NearSmall most view.above_right
  pub above_left : NearSmall most view.above_left
