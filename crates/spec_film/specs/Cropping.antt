-- The part of a picture that is shown.
use Rattle.std.specs.Prelude.{ℕ, ◌*◌, ◌/◌, ◌≡◌, List, length, take, drop}
use Rattle.std.specs.List.{range_with_len, flat_map}
use Rattle.spec_basics.specs.Sizes.{in_macroblocks}
use Rattle.spec_film.specs.declared.FilmHead.{FilmHead}
use Rattle.spec_film.specs.Films.{Planes, luma_count, chroma_count}

-- the first `columns` samples of each of the first `rows` rows of a plane whose rows have this width
unfoldable pub cropped_plane : ℕ → ℕ → ℕ → List ℕ → List ℕ
cropped_plane width columns rows samples = flat_map (λ y. take columns (drop (y * width) samples)) (range_with_len 0 rows)

-- the cropping rectangle of so many luma columns and rows, from the upper left corner on, of a picture that is this many
-- macroblocks wide (ITU-T H.264, clause 7.4.2.1.1)
abbrev pub cropped : ℕ → ℕ → ℕ → Planes → Planes
cropped across width height p = record {
  luma = cropped_plane (16 * across) width height p.luma;
  cb = cropped_plane (8 * across) (width / 2) (height / 2) p.cb;
  cr = cropped_plane (8 * across) (width / 2) (height / 2) p.cr;
}

-- a picture of a film, from its padded planes
abbrev pub shown : FilmHead → Planes → Planes
shown head p = cropped (in_macroblocks head.width) head.width head.height p

-- planes of the head's own sizes, without padding
pub record HasOwnSizes (head : FilmHead) (p : Planes) : Type 0 where
  pub luma : length p.luma ≡ luma_count head
  pub cb : length p.cb ≡ chroma_count head
  pub cr : length p.cr ≡ chroma_count head
