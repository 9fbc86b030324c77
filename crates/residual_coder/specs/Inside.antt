-- Blocks that lie inside a plane.
use Rattle.std.specs.Prelude.{ℕ, ◌≡◌, ◌≤◌, ◌+◌}
use Rattle.picture_planes.specs.declared.plane.Plane.{Plane}

-- a block of n by n samples at (x, y) of a larger plane, of which this one has the rows from `top` on
pub record Inside (n top : ℕ) (plane : Plane) (x y : ℕ) : Type 0 where
  pub columns : x + n ≤ plane.width
  pub begins : top ≤ y
  pub rows : y + n ≤ top + plane.height

-- the plane of a source that is as wide as this one, and has a block of n by n samples down to this row
pub record IsSource (n y : ℕ) (plane source : Plane) : Type 0 where
  pub wide : source.width ≡ plane.width
  pub rows : y + n ≤ source.height
