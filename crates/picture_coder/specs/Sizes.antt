-- Sizes of pictures.
use Rattle.std.specs.Prelude.{ℕ, ◌≡◌, ◌/◌}
use Rattle.picture_planes.specs.Clamped.{rounded}
use Rattle.picture_planes.specs.declared.picture.Picture.{Picture}

-- the sizes and margins of a picture that is made for so many luma samples in a row, and so many rows
pub record HasSizes (width height : ℕ) (p : Picture) : Type 0 where
  pub luma : (p.y.width ≡ rounded width) × (p.y.height ≡ rounded height) × (p.y.pad ≡ 40)
  pub cb : (p.cb.width ≡ rounded width / 2) × (p.cb.height ≡ rounded height / 2) × (p.cb.pad ≡ 20)
  pub cr : (p.cr.width ≡ rounded width / 2) × (p.cr.height ≡ rounded height / 2) × (p.cr.pad ≡ 20)
