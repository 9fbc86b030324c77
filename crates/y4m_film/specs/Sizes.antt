-- Pictures of the size of a film.
use Rattle.std.specs.Prelude.{◌≡◌, ◌/◌}
use Rattle.spec_film.specs.declared.FilmHead.{FilmHead}
use Rattle.spec_film.specs.Padding.{padded_size}
use Rattle.picture_planes.specs.declared.picture.Picture.{Picture}

-- the planes have the film's sizes, rounded up to whole macroblocks: the chroma planes half the width and half the height
pub record FitsHead (head : FilmHead) (p : Picture) : Type 0 where
  pub luma_width : p.y.width ≡ padded_size head.width
  pub luma_height : p.y.height ≡ padded_size head.height
  pub cb_width : p.cb.width ≡ padded_size head.width / 2
  pub cb_height : p.cb.height ≡ padded_size head.height / 2
  pub cr_width : p.cr.width ≡ padded_size head.width / 2
  pub cr_height : p.cr.height ≡ padded_size head.height / 2
