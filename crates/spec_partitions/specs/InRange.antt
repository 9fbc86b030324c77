-- References below the lengths of the lists.
use Rattle.std.specs.Prelude.{ℕ, ◌<◌, List, get_or, slice_index_or, Option, Some, None, negsuc}
use Rattle.enc_tables.specs.declared.records.MbRecord.{MbRecord}
use Rattle.enc_tables.specs.declared.records.Motion.{Motion}
use Rattle.enc_tables.specs.declared.records.SliceKind.{SliceKind}
use Rattle.enc_tables.specs.Records.{no_motion}
use Rattle.spec_partitions.specs.Near.{View}
use Rattle.spec_partitions.specs.Records.{RefFits}

-- the references of a block
pub record MotionFits (entries0 entries1 : ℕ) (m : Motion) : Type 0 where
  pub first : RefFits entries0 (slice_index_or m.refs 0 (negsuc 0))
  pub second : RefFits entries1 (slice_index_or m.refs 1 (negsuc 0))

-- the blocks of a macroblock, and of one that may not be available
pub record AllFit (entries0 entries1 : ℕ) (motion : List Motion) : Type 0 where
  pub at : (k : ℕ) → k < 4 → MotionFits entries0 entries1 (get_or motion k no_motion)

unfoldable pub NearFits : ℕ → ℕ → Option MbRecord → Type 0
NearFits entries0 entries1 None = Unit {0}
NearFits entries0 entries1 (Some n) = AllFit entries0 entries1 n.motion

pub record ViewFits (view : View) : Type 0 where
  pub left : NearFits view.near.refs0 view.near.refs1 view.near.left
  pub above : NearFits view.near.refs0 view.near.refs1 view.near.above
  pub above_right : NearFits view.near.refs0 view.near.refs1 view.above_right
  pub above_left : NearFits view.near.refs0 view.near.refs1 view.above_left

-- P slices have a reference, B slices one in each list
unfoldable pub HasEntries : SliceKind → ℕ → ℕ → Type 0
HasEntries SliceKind.I refs0 refs1 = Unit {0}
HasEntries SliceKind.P refs0 refs1 = 0 < refs0
HasEntries SliceKind.B refs0 refs1 = (0 < refs0) × (0 < refs1)
