-- What a table of sums holds.
use Rattle.std.specs.Prelude.{ℕ, ℤ, pos, slice_index, ◌+◌, ◌*◌, ◌≤◌, ◌≡◌, ◌+ℤ◌, ◌≤ℤ◌}
use Rattle.spec_kernels.specs.Sums.{block_sum}
use Rattle.picture_planes.specs.declared.plane.Plane.{Plane}
use Rattle.picture_planes.specs.Margins.{nearest, inward}
use Rattle.block_sums.specs.declared.table.SumTable.{SumTable}

abbrev pub table_width : SumTable → ℕ
table_width t = t.width + 2 * t.pad

abbrev pub table_height : SumTable → ℕ
table_height t = t.height + 2 * t.pad

-- the table's size and margin are the plane's
pub record HasShapeOf (t : SumTable) (p : Plane) : Type 0 where
  pub width : t.width ≡ p.width
  pub height : t.height ≡ p.height
  pub pad : t.pad ≡ p.pad

-- the item for column c and row r, which are counted from the margin's corner
unfoldable pub sum_at : SumTable → ℕ → ℕ → ℕ
sum_at t c r = slice_index t.sums.items (r * table_width t + c)

-- the table was filled from the plane: each item is the sum of the 8x8 samples from its place on, where a place outside
-- the plane has the sample of the nearest place inside
pub record IsTableOf (t : SumTable) (p : Plane) : Type 0 where
  pub shape : HasShapeOf t p
  pub sums : (c r : ℕ) → c + 8 ≤ table_width t → r + 8 ≤ table_height t → sum_at t c r ≡ block_sum (λ i j. nearest p (inward p (c + i)) (inward p (r + j))) 8 8

-- the 8x8 samples from column x and row y on lie within the margin
pub record IsPlace (t : SumTable) (x y : ℤ) : Type 0 where
  pub left : pos 0 ≤ℤ (x +ℤ pos t.pad)
  pub right : (x +ℤ pos 8) ≤ℤ pos (t.width + t.pad)
  pub top : pos 0 ≤ℤ (y +ℤ pos t.pad)
  pub bottom : (y +ℤ pos 8) ≤ℤ pos (t.height + t.pad)
