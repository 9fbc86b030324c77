-- Samples of a plane's buffer about a place.
use Rattle.std.specs.Prelude.{ℕ, pos, ◌+◌, ◌≡◌, ◌≤◌, ◌+ℤ◌}
use Rattle.picture_planes.specs.declared.plane.Plane.{Plane}
use Rattle.picture_planes.specs.Margins.{buffer_at}
use Rattle.spec_inter.specs.declared.Position.{Position}
use Rattle.spec_inter.specs.Taps.{half}
use Rattle.spec_inter.specs.Chroma.{eighth_of}
use Rattle.spec_inter.specs.Luma.{along, down, position_of, quarter_of}

-- those from column c and row r of the buffer on
abbrev pub near_at : Plane → ℕ → ℕ → ℕ → ℕ → ℕ
near_at p c r k l = buffer_at p (c + k) (r + l)

-- for column i and row j of a block whose surroundings begin at column c and row r of the buffer: a sample at a whole or
-- half sample position, a whole sample, and half samples between columns and between rows
unfoldable pub position_at : Plane → Position → ℕ → ℕ → ℕ → ℕ → ℕ
position_at p position c r i j = position_of (near_at p (c + i) (r + j)) position

unfoldable pub whole_at : Plane → ℕ → ℕ → ℕ → ℕ → ℕ → ℕ → ℕ
whole_at p k l c r i j = near_at p (c + i) (r + j) k l

unfoldable pub across_at : Plane → ℕ → ℕ → ℕ → ℕ → ℕ → ℕ
across_at p l c r i j = half (along (near_at p (c + i) (r + j)) l)

unfoldable pub down_at : Plane → ℕ → ℕ → ℕ → ℕ → ℕ → ℕ
down_at p k c r i j = half (down (near_at p (c + i) (r + j)) k)

-- the sample at x quarters to the right and y quarters down
unfoldable pub quarter_at : Plane → ℕ → ℕ → ℕ → ℕ → ℕ → ℕ → ℕ
quarter_at p x y c r i j = quarter_of (near_at p (c + i) (r + j)) x y

-- v is the taps along row r + m, with 2550 added
pub record RawAt (p : Plane) (c r i m v : ℕ) : Type 0 where
  pub same : pos v ≡ along (near_at p (c + i) (r + m)) 0 +ℤ pos 2550
  pub most : v ≤ 13260

-- the chroma sample at u eighths to the right and v eighths down
unfoldable pub eighth_in : Plane → ℕ → ℕ → ℕ → ℕ → ℕ → ℕ → ℕ
eighth_in p u v c r i j = eighth_of (near_at p (c + i) (r + j) 0 0) (near_at p (c + i) (r + j) 1 0) (near_at p (c + i) (r + j) 0 1) (near_at p (c + i) (r + j) 1 1) u v
