-- Blocks and neighbours that lie inside a plane.
use Rattle.std.specs.Prelude.{ℕ, true, ◌≡◌, ◌≤◌, ◌<◌, ◌+◌}
use Rattle.picture_planes.specs.declared.plane.Plane.{Plane}
use Rattle.spec_intra.specs.declared.Avail.{Avail}
use Rattle.spec_reconstruction.specs.declared.Site.{Site}

-- a block of n by n samples at (x, y) of a larger plane, of which this one has the rows from `top` on, and those of its neighbours that
-- are available, but for those above at the right
pub record Reachable (n top : ℕ) (plane : Plane) (avail : Avail) (x y : ℕ) : Type 0 where
  pub columns : x + n ≤ plane.width
  pub begins : top ≤ y
  pub rows : y + n ≤ top + plane.height
  pub left : avail.left ≡ true → 0 < x
  pub above : avail.above ≡ true → top < y
  pub corner_left : avail.corner ≡ true → 0 < x
  pub corner_above : avail.corner ≡ true → top < y

-- and also those above at the right
pub record Readable (n top : ℕ) (plane : Plane) (avail : Avail) (x y : ℕ) : Type 0 where
  pub reachable : Reachable n top plane avail x y
  pub beyond : avail.above_right ≡ true → x + n + n ≤ plane.width
  pub beyond_above : avail.above_right ≡ true → top < y

-- a macroblock lies inside a plane that has the rows from `top` on, and so do the neighbouring macroblocks that are available
pub record Stands (site : Site) (top : ℕ) (plane : Plane) : Type 0 where
  pub columns : site.x + 16 ≤ plane.width
  pub begins : top ≤ site.y
  pub rows : site.y + 16 ≤ top + plane.height
  pub left : site.near.left ≡ true → 16 ≤ site.x
  pub above : site.near.above ≡ true → top + 16 ≤ site.y
  pub corner_left : site.near.corner ≡ true → 16 ≤ site.x
  pub corner_above : site.near.corner ≡ true → top + 16 ≤ site.y
  pub beyond : site.near.above_right ≡ true → site.x + 32 ≤ plane.width
  pub beyond_above : site.near.above_right ≡ true → top + 16 ≤ site.y
