-- The pictures that a film of 8-bit samples has.
use Rattle.std.specs.Prelude.{◌≡◌, ◌*◌, ◌/◌, length}
use Rattle.std.specs.List.{All}
use Rattle.spec_bits.specs.Bits.{IsByte}
use Rattle.spec_film.specs.declared.FilmHead.{FilmHead}
use Rattle.spec_film.specs.Padding.{padded_size}
use Rattle.spec_film.specs.Films.{Planes}

-- the planes have the head's sizes, rounded up to whole macroblocks, and their samples are bytes
pub record IsPicture (h : FilmHead) (p : Planes) : Type 0 where
  pub luma : length p.luma ≡ padded_size h.width * padded_size h.height
  pub cb : length p.cb ≡ padded_size h.width / 2 * (padded_size h.height / 2)
  pub cr : length p.cr ≡ padded_size h.width / 2 * (padded_size h.height / 2)
  pub luma_bytes : All IsByte p.luma
  pub cb_bytes : All IsByte p.cb
  pub cr_bytes : All IsByte p.cr
