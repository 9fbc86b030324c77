-- A picture that is made for a film has its sizes.
use Rattle.std.proofs.Common.{◌/◌, ◌≡◌, ◌≤◌, ◌<◌, arith}
use Rattle.spec_film.specs.declared.FilmHead.{FilmHead}
use Rattle.spec_film.specs.Padding.{padded_size}
use Rattle.spec_film.specs.Films.{AllowedHead}
use Rattle.picture_planes.specs.Clamped.{rounded}
use Rattle.picture_planes.specs.declared.picture.Picture.{Picture}
use Rattle.y4m_film.specs.Sizes.{FitsHead}

-- what `Picture::new` of the head's sizes says of its planes
pub fits_new : (head : FilmHead) (p : Picture) → (p.y.width ≡ rounded head.width) × (p.y.height ≡ rounded head.height)
    → (p.cb.width ≡ rounded head.width / 2) × (p.cb.height ≡ rounded head.height / 2) → (p.cr.width ≡ rounded head.width / 2) × (p.cr.height ≡ rounded head.height / 2) → FitsHead head p
fits_new head p y cb cr = record {
  luma_width = y.0;
  luma_height = y.1;
  cb_width = cb.0;
  cb_height = cb.1;
  cr_width = cr.0;
  cr_height = cr.1;
}

-- the head's own sizes lie in those of the planes
pub record Within (head : FilmHead) : Type 0 where
  pub wide_some : 0 < head.width
  pub high_some : 0 < head.height
  pub half_wide_some : 0 < head.width / 2
  pub half_high_some : 0 < head.height / 2
  pub wide : head.width ≤ padded_size head.width
  pub high : head.height ≤ padded_size head.height
  pub half_wide : head.width / 2 ≤ padded_size head.width / 2
  pub half_high : head.height / 2 ≤ padded_size head.height / 2

pub within : (head : FilmHead) → AllowedHead head → Within head
within head a = record {
  wide_some = omega (arith, a.width_least);
  high_some = omega (arith, a.height_least);
  half_wide_some = omega (arith, a.width_least);
  half_high_some = omega (arith, a.height_least);
  wide = omega arith;
  high = omega arith;
  half_wide = omega arith;
  half_high = omega arith;
}
