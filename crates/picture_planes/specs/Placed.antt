-- Rows that are taken over from another plane.
use Rattle.std.specs.Prelude.{ℕ, ◌≡◌, ◌<◌, ◌≤◌, ◌+◌}
use Rattle.picture_planes.specs.declared.plane.Plane.{Plane}
use Rattle.picture_planes.specs.Samples.{row_of, SameShape}

-- rows `to` to `to` + n - 1 of new are the first n of other, and all other rows are old
pub record RowsPlaced (to n : ℕ) (other old new : Plane) : Type 0 where
  pub shape : SameShape old new
  pub inside : (y : ℕ) → y < n → row_of new (to + y) ≡ row_of other y
  pub above : (y : ℕ) → y < to → row_of new y ≡ row_of old y
  pub below : (y : ℕ) → to + n ≤ y → row_of new y ≡ row_of old y
