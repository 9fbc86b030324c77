-- Planes that can be searched.
use Rattle.std.specs.Prelude.{ℕ, ◌≡◌}
use Rattle.picture_planes.specs.Margins.{IsFilled}
use Rattle.block_sums.specs.Tables.{IsTableOf}
use Rattle.tool_compare.specs.declared.search.Summed.{Summed}

-- the plane has this size, its margin is 40 and filled, and the sums are its own
pub record IsReady (width height : ℕ) (s : Summed) : Type 0 where
  pub width_is : s.plane.width ≡ width
  pub height_is : s.plane.height ≡ height
  pub margin : s.plane.pad ≡ 40
  pub filled : IsFilled s.plane
  pub table : IsTableOf s.sums s.plane
