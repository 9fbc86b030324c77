-- The samples of a picture, from those of its macroblocks.
use Rattle.std.specs.Prelude.{ℕ, ◌+◌, ◌*◌, ◌/◌, ◌%◌, List, [], map, get_or}
use Rattle.std.specs.List.{range_with_len}
use Rattle.spec_film.specs.Films.{Planes}

-- The sample at place i, in raster scan, of a plane of macroblocks: `across` macroblocks wide, with blocks of `size` rows of `size` samples,
-- which stand from `first` on among the samples of their macroblock (clause 6.4.1)
abbrev pub sample_at : ℕ → ℕ → ℕ → List (List ℕ) → ℕ → ℕ
sample_at across size first macroblocks i =
    let x = i % (size * across) in
    let y = i / (size * across) in
    get_or (get_or macroblocks (y / size * across + x / size) []) (first + (y % size * size + x % size)) 0

unfoldable pub plane_from : ℕ → ℕ → ℕ → ℕ → List (List ℕ) → List ℕ
plane_from across down size first macroblocks = map (sample_at across size first macroblocks) (range_with_len 0 (size * across * (size * down)))

-- the picture that the samples of macroblocks make
abbrev pub picture_from : ℕ → ℕ → List (List ℕ) → Planes
picture_from across down macroblocks = record {
  luma = plane_from across down 16 0 macroblocks;
  cb = plane_from across down 8 256 macroblocks;
  cr = plane_from across down 8 320 macroblocks;
}
