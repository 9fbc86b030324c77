-- What a plane holds.
use Rattle.std.specs.Prelude.{ℕ, zero, suc, List, [], ◌++◌, slice_index, slice_range, ◌≡◌, ◌+◌, ◌*◌}
use Rattle.std.specs.Borrow.{Lends, MutBor, Fml, u8, Array}
use Rattle.std.specs.Vec.{with_items, with_items_from}
use Rattle.picture_planes.specs.declared.plane.Plane.{Plane}
use Rattle.picture_planes.specs.contracts.plane.Plane.{the_row}

-- the buffer: all samples row by row, with the margins
abbrev pub buffer : Plane → List ℕ
buffer p = p.bytes.items

-- where row y begins in the buffer, without its margin
abbrev pub row_start : Plane → ℕ → ℕ
row_start p y = (y + p.pad) * (p.width + 2 * p.pad) + p.pad

-- row y without its margin
abbrev pub row_of : Plane → ℕ → List ℕ
row_of p y = slice_range (buffer p) (row_start p y) (row_start p y + p.width)

-- the sample at column x of row y
abbrev pub at : Plane → ℕ → ℕ → ℕ
at p x y = slice_index (row_of p y) x

-- the first n rows, one after another, without margins
unfoldable pub rows_to : Plane → ℕ → List ℕ
rows_to p zero = []
rows_to p (suc n) = rows_to p n ++ row_of p n

-- all rows, one after another, without margins
unfoldable pub samples_of : Plane → List ℕ
samples_of p = rows_to p p.height

-- p with w written over row y
abbrev pub with_row : Plane → ℕ → List ℕ → Plane
with_row p y w = record p { bytes = with_items_from p.bytes (row_start p y) w }

-- r is row y of s, lent for writing
abbrev pub LendsRow : MutBor Plane → ℕ → MutBor (List ℕ) → Fml
LendsRow s y r = Lends the_row (Array u8 0) s r (with_row s.now y)

-- p with w as its whole buffer
abbrev pub with_buffer : Plane → List ℕ → Plane
with_buffer p w = record p { bytes = with_items p.bytes w }

-- r is the whole buffer of s, lent for writing
abbrev pub LendsBuffer : MutBor Plane → MutBor (List ℕ) → Fml
LendsBuffer s r = Lends the_row (Array u8 0) s r (with_buffer s.now)

-- new has the sizes and the margin of old
abbrev pub SameShape : Plane → Plane → Type 0
SameShape old new = (new.width ≡ old.width) × (new.height ≡ old.height) × (new.pad ≡ old.pad)
