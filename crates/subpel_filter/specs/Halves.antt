-- Half samples that are kept in planes, and what is read from them (ITU-T H.264, clause 8.4.2.2.1).
use Rattle.std.specs.Prelude.{ℕ, ℤ, pos, ◌+◌, ◌<◌, ◌≡◌, ◌≢◌}
use Rattle.enc_tables.specs.declared.records.Vector.{Vector}
use Rattle.spec_film.specs.Places.{sample_at}
use Rattle.picture_planes.specs.declared.plane.Plane.{Plane}
use Rattle.picture_planes.specs.Samples.{samples_of, SameShape}
use Rattle.picture_planes.specs.Margins.{buffer_width, buffer_height, buffer_at, inward, held_at}
use Rattle.spec_inter.specs.declared.Position.{Position}
use Rattle.spec_inter.specs.declared.Position.TheVariants.{Here, Right, Below, Across, AcrossBelow, Down, DownRight, Middle}
use Rattle.spec_inter.specs.Taps.{mean}
use Rattle.spec_inter.specs.Luma.{first_of, second_of}
use Rattle.spec_inter.specs.Halves.{LumaPlanes, halves_of, kept_luma}
use Rattle.subpel_filter.specs.declared.halves.HalfPlanes.{HalfPlanes}
use Rattle.subpel_filter.specs.Near.{whole_at}

-- the samples of a plane at any coordinates
abbrev pub samples_at : Plane → ℤ → ℤ → ℕ
samples_at p = sample_at p.width p.height (samples_of p)

-- each byte of the buffer is what f gives for its column and row, counted from the plane's corner
pub record Holds (f : ℤ → ℤ → ℕ) (p : Plane) : Type 0 where
  pub at : (c r : ℕ) → c < buffer_width p → r < buffer_height p → buffer_at p c r ≡ f (inward p c) (inward p r)

-- the three planes have the sizes and the margin of this one
pub record AreSized (p : Plane) (halves : HalfPlanes) : Type 0 where
  pub b : SameShape p halves.b
  pub h : SameShape p halves.h
  pub j : SameShape p halves.j

-- at every place, in the margin too, stand the half samples of this plane's samples
pub record AreHalves (p : Plane) (halves : HalfPlanes) : Type 0 where
  pub b : Holds (halves_of (samples_at p)).b halves.b
  pub h : Holds (halves_of (samples_at p)).h halves.h
  pub j : Holds (halves_of (samples_at p)).j halves.j

-- what a plane and half planes hold, whatever that is
abbrev pub kept_planes : Plane → HalfPlanes → LumaPlanes
kept_planes p halves = record {
  g = samples_at p;
  b = held_at halves.b;
  h = held_at halves.h;
  j = held_at halves.j;
}

-- the sample that these give at column i and row j of a block at column x and row y, moved by a vector
abbrev pub luma_kept : Plane → HalfPlanes → ℕ → ℕ → Vector → ℕ → ℕ → ℕ
luma_kept p halves x y v i j = kept_luma (kept_planes p halves) (pos (x + i)) (pos (y + j)) v

-- ROW BY ROW

-- row r of the new buffer holds what f gives for each column, and the other rows are old
pub record RowMade (f : ℕ → ℕ) (r : ℕ) (old new : Plane) : Type 0 where
  pub shape : SameShape old new
  pub at : (c : ℕ) → c < buffer_width old → buffer_at new c r ≡ f c
  pub others : (c z : ℕ) → c < buffer_width old → z < buffer_height old → z ≢ r → buffer_at new c z ≡ buffer_at old c z

-- the first n rows of the buffer hold what f gives
pub record RowsMade (f : ℕ → ℕ → ℕ) (n : ℕ) (old new : Plane) : Type 0 where
  pub shape : SameShape old new
  pub at : (c r : ℕ) → c < buffer_width old → r < n → buffer_at new c r ≡ f c r

-- BLOCK BY BLOCK

-- the plane in which the sample at a position is kept, and how many columns and rows on it stands
abbrev pub plane_of : Plane → HalfPlanes → Position → Plane
plane_of p halves Here = p
plane_of p halves Right = p
plane_of p halves Below = p
plane_of p halves Across = halves.b
plane_of p halves AcrossBelow = halves.b
plane_of p halves Down = halves.h
plane_of p halves DownRight = halves.h
plane_of p halves Middle = halves.j

abbrev pub columns_on : Position → ℕ
columns_on Here = 0
columns_on Right = 1
columns_on Below = 0
columns_on Across = 0
columns_on AcrossBelow = 0
columns_on Down = 0
columns_on DownRight = 1
columns_on Middle = 0

abbrev pub rows_on : Position → ℕ
rows_on Here = 0
rows_on Right = 0
rows_on Below = 1
rows_on Across = 0
rows_on AcrossBelow = 1
rows_on Down = 0
rows_on DownRight = 0
rows_on Middle = 0

-- for column i and row j of a block whose surroundings begin at column c and row r of the buffer: the sample at a position
abbrev pub kept_place : Plane → HalfPlanes → Position → ℕ → ℕ → ℕ → ℕ → ℕ
kept_place p halves position c r i j = whole_at (plane_of p halves position) (2 + columns_on position) (2 + rows_on position) c r i j

-- and the one at x quarters to the right and y quarters down
abbrev pub kept_mean : Plane → HalfPlanes → ℕ → ℕ → ℕ → ℕ → ℕ → ℕ → ℕ
kept_mean p halves x y c r i j = mean (kept_place p halves (first_of x y) c r i j) (kept_place p halves (second_of x y) c r i j)
