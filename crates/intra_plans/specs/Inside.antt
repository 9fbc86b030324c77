-- Macroblocks inside planes.
use Rattle.std.specs.Prelude.{ℕ, true, ◌≡◌, ◌≤◌, ◌+◌}
use Rattle.picture_planes.specs.declared.plane.Plane.{Plane}
use Rattle.spec_intra.specs.declared.Avail.{Avail}

-- a luma macroblock at (x, y) lies inside the plane, and so do the neighbouring macroblocks that are available
pub record Inside (plane : Plane) (mb : Avail) (x y : ℕ) : Type 0 where
  pub columns : x + 16 ≤ plane.width
  pub rows : y + 16 ≤ plane.height
  pub left : mb.left ≡ true → 16 ≤ x
  pub above : mb.above ≡ true → 16 ≤ y
  pub corner_left : mb.corner ≡ true → 16 ≤ x
  pub corner_above : mb.corner ≡ true → 16 ≤ y
  pub beyond : mb.above_right ≡ true → x + 32 ≤ plane.width
  pub beyond_above : mb.above_right ≡ true → 16 ≤ y
