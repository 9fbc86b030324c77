-- Parts of planes. A plane is the list of its samples, row by row; `wide` is how many a row has.
use Rattle.std.specs.Prelude.{ℕ, zero, suc, List, [], ◌++◌, take, drop, map, slice_index, ◌+◌, ◌*◌}
use Rattle.std.specs.List.{range_with_len}
use Rattle.spec_film.specs.Over.{over}

-- n samples of row y from column x on
abbrev pub row_part : ℕ → ℕ → ℕ → ℕ → List ℕ → List ℕ
row_part wide x y n plane = take n (drop (y * wide + x) plane)

-- n samples of column x from row y down
unfoldable pub column_part : ℕ → ℕ → ℕ → ℕ → List ℕ → List ℕ
column_part wide x y n plane = map (λ j. slice_index plane ((y + j) * wide + x)) (range_with_len 0 n)

-- the first k rows, one after another, of the block of n columns whose upper left sample is at (x, y)
unfoldable pub block_rows : ℕ → ℕ → ℕ → ℕ → List ℕ → ℕ → List ℕ
block_rows wide x y n plane zero = []
block_rows wide x y n plane (suc k) = block_rows wide x y n plane k ++ row_part wide x (y + k) n plane

-- the block of n by n samples whose upper left one is at (x, y), row by row
abbrev pub block_at : ℕ → ℕ → ℕ → ℕ → List ℕ → List ℕ
block_at wide x y n plane = block_rows wide x y n plane n

-- the plane with the first k rows of a block of n columns written at (x, y)
unfoldable pub with_rows : ℕ → ℕ → ℕ → ℕ → List ℕ → ℕ → List ℕ → List ℕ
with_rows wide x y n block zero plane = plane
with_rows wide x y n block (suc k) plane =
    over (with_rows wide x y n block k plane) ((y + k) * wide + x) (take n (drop (k * n) block))

-- the plane with a block of n by n samples, row by row, written at (x, y)
abbrev pub with_block : ℕ → ℕ → ℕ → ℕ → List ℕ → List ℕ → List ℕ
with_block wide x y n block plane = with_rows wide x y n block n plane
