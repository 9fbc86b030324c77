-- Planes that are padded to whole macroblocks: the last column and the last row are repeated.
use Rattle.std.specs.Prelude.{ℕ, zero, suc, ◌-◌, ◌*◌, List, [], ◌++◌, length, take, drop, get_or, replicate}
use Rattle.spec_basics.specs.Sizes.{in_macroblocks}

-- the least multiple of 16 that isn't below n
abbrev pub padded_size : ℕ → ℕ
padded_size n = in_macroblocks n * 16

-- row y of samples that stand row by row, `width` in each row
abbrev pub row_at : ℕ → ℕ → List ℕ → List ℕ
row_at width y samples = take width (drop (y * width) samples)

-- a row of `wide` samples: behind those that are there, the last one is repeated
abbrev pub widened : ℕ → List ℕ → List ℕ
widened wide row = row ++ replicate (wide - length row) (get_or row (length row - 1) 0)

-- the first n rows, each of them made `wide` samples long
unfoldable pub widened_rows : ℕ → ℕ → ℕ → List ℕ → List ℕ
widened_rows width wide zero samples = []
widened_rows width wide (suc n) samples = widened_rows width wide n samples ++ widened wide (row_at width n samples)

-- a row, n times
unfoldable pub repeated : ℕ → List ℕ → List ℕ
repeated zero row = []
repeated (suc n) row = repeated n row ++ row

-- a plane of `width` samples in each of `height` rows, padded to `wide` samples in each of `high` rows
unfoldable pub padded_plane : ℕ → ℕ → ℕ → ℕ → List ℕ → List ℕ
padded_plane width height wide high samples = widened_rows width wide height samples ++ repeated (high - height) (widened wide (row_at width (height - 1) samples))
