-- Planes with their margins.
use Rattle.std.specs.Prelude.{ℕ, ℤ, pos, List, slice_index, slice_range, ◌≡◌, ◌<◌, ◌≤◌, ◌+◌, ◌*◌, ◌+ℤ◌, ◌-ℤ◌, ◌≤ℤ◌, ◌<ℤ◌}
use Rattle.std.specs.Borrow.{Lends, MutBor, Fml, u8, Array}
use Rattle.std.specs.Vec.{with_items_from}
use Rattle.spec_film.specs.Places.{clamped_to, place_of}
use Rattle.picture_planes.specs.declared.plane.Plane.{Plane}
use Rattle.picture_planes.specs.contracts.plane.Plane.{the_row}
use Rattle.picture_planes.specs.Samples.{at, buffer}

-- the sample at column x of row y; a place outside the plane has the sample of the nearest place inside
abbrev pub nearest : Plane → ℤ → ℤ → ℕ
nearest p x y = at p (clamped_to x p.width) (clamped_to y p.height)

-- THE BUFFER: its columns and rows are counted from the corner of the margin

abbrev pub buffer_width : Plane → ℕ
buffer_width p = p.width + 2 * p.pad

abbrev pub buffer_height : Plane → ℕ
buffer_height p = p.height + 2 * p.pad

-- a row of the buffer, with its margins
abbrev pub buffer_row : Plane → ℕ → List ℕ
buffer_row p r = slice_range (buffer p) (r * buffer_width p) (r * buffer_width p + buffer_width p)

-- the byte at column c of row r of the buffer
unfoldable pub buffer_at : Plane → ℕ → ℕ → ℕ
buffer_at p c r = slice_index (buffer p) (r * buffer_width p + c)

-- column or row i of the buffer, counted from the plane's corner
abbrev pub inward : Plane → ℕ → ℤ
inward p i = pos i -ℤ pos p.pad

-- the margin is filled: each byte of the buffer is the sample of the nearest place of the plane
pub record IsFilled (p : Plane) : Type 0 where
  pub at : (c r : ℕ) → c < buffer_width p → r < buffer_height p → buffer_at p c r ≡ nearest p (inward p c) (inward p r)

-- a row of the plane or of the margin above or below
abbrev pub IsInMargin : Plane → ℤ → Type 0
IsInMargin p y = (pos 0 ≤ℤ (y +ℤ pos p.pad)) × (y <ℤ pos (p.height + p.pad))

-- the row of the buffer that has row y of the plane or of the margin
abbrev pub row_place : Plane → ℤ → ℕ
row_place p y = place_of (y +ℤ pos p.pad)

-- what the buffer holds at column x of row y, both counted from the plane's corner
abbrev pub held_at : Plane → ℤ → ℤ → ℕ
held_at p x y = buffer_at p (place_of (x +ℤ pos p.pad)) (row_place p y)

-- columns `first` to `last` - 1 of this row of the buffer hold the samples nearest to row y
abbrev pub HoldsNearest : Plane → ℤ → List ℕ → ℕ → ℕ → Type 0
HoldsNearest p y row first last = (c : ℕ) → first ≤ c → c < last → slice_index row c ≡ nearest p (inward p c) y

-- xs is n bytes of row r of the buffer from column c on
abbrev pub IsWindow : Plane → ℕ → ℕ → ℕ → List ℕ → Type 0
IsWindow p c r n xs = (i : ℕ) → i < n → slice_index xs i ≡ buffer_at p (c + i) r

-- xs is the bytes of the buffer from column c of row r on: each row begins the buffer's width after the one before
abbrev pub IsBlock : Plane → ℕ → ℕ → List ℕ → Type 0
IsBlock p c r xs = (i j : ℕ) → c + i < buffer_width p → r + j < buffer_height p → slice_index xs (j * buffer_width p + i) ≡ buffer_at p (c + i) (r + j)

-- xs is n samples nearest to the places of row r of the buffer from column c on
abbrev pub IsNearestWindow : Plane → ℕ → ℕ → ℕ → List ℕ → Type 0
IsNearestWindow p c r n xs = (i : ℕ) → i < n → slice_index xs i ≡ nearest p (inward p (c + i)) (inward p r)

-- p with w written over row r of the buffer
abbrev pub with_buffer_row : Plane → ℕ → List ℕ → Plane
with_buffer_row p r w = record p { bytes = with_items_from p.bytes (r * buffer_width p) w }

-- lent is row r of the buffer of s, lent for writing
abbrev pub LendsBufferRow : MutBor Plane → ℕ → MutBor (List ℕ) → Fml
LendsBufferRow s r lent = Lends the_row (Array u8 0) s lent (with_buffer_row s.now r)

-- lent is row y of s, of the plane or of the margin, lent for writing with its margins
abbrev pub LendsPaddedRow : MutBor Plane → ℤ → MutBor (List ℕ) → Fml
LendsPaddedRow s y lent = LendsBufferRow s (row_place s.now y) lent
