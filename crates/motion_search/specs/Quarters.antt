-- Costs of vectors in quarter samples.
use Rattle.std.specs.Prelude.{ℕ, pos, Option, Some, None, ◌≤ℤ◌, ◌-ℤ◌}
use Rattle.std.specs.Borrow.{Bor}
use Rattle.enc_tables.specs.declared.records.Vector.{Vector}
use Rattle.spec_kernels.specs.Sums.{block_difference}
use Rattle.spec_search.specs.declared.blocks.Block.{Block}
use Rattle.spec_search.specs.Window.{own}
use Rattle.picture_planes.specs.declared.plane.Plane.{Plane}
use Rattle.picture_planes.specs.Samples.{at}
use Rattle.subpel_filter.specs.declared.halves.HalfPlanes.{HalfPlanes}
use Rattle.subpel_filter.specs.Predicted.{luma_at}
use Rattle.subpel_filter.specs.Halves.{luma_kept}

-- the sum of absolute differences of the block and its prediction by the vector (ITU-T H.264, clause 8.4.2.2.1)
unfoldable pub quarter_costs : Plane → Plane → Block → Vector → ℕ
quarter_costs source reference block v = block_difference (own (at source) block) (luma_at reference block.x block.y v) block.w block.h

-- the same from half samples that are kept, whatever they hold
unfoldable pub kept_costs : Plane → Plane → HalfPlanes → Block → Vector → ℕ
kept_costs source reference halves block v = block_difference (own (at source) block) (luma_kept reference halves block.x block.y v) block.w block.h

-- the samples of a prediction, by filtering the reference or from half samples where some are given
abbrev pub samples_by : Plane → Option (Bor HalfPlanes) → Block → Vector → ℕ → ℕ → ℕ
samples_by reference None block v = luma_at reference block.x block.y v
samples_by reference (Some halves) block v = luma_kept reference halves.now block.x block.y v

-- and what it costs: by filtering the reference, or from half samples where some are given
abbrev pub costs_by : Plane → Plane → Option (Bor HalfPlanes) → Block → Vector → ℕ
costs_by source reference None block = quarter_costs source reference block
costs_by source reference (Some halves) block = kept_costs source reference halves.now block

-- no part of the vector is above this size
pub record IsWithin (most : ℕ) (v : Vector) : Type 0 where
  pub left : (pos 0 -ℤ pos most) ≤ℤ v.x
  pub right : v.x ≤ℤ pos most
  pub up : (pos 0 -ℤ pos most) ≤ℤ v.y
  pub down : v.y ≤ℤ pos most
