-- Rows of the buffer whose margins are written.
use Rattle.std.specs.Prelude.{ℕ, List, take, drop, slice_index, replicate, ◌++◌, ◌+◌, ◌-◌, ◌≡◌, ◌<◌, ◌≤◌, ◌≢◌}
use Rattle.picture_planes.specs.declared.plane.Plane.{Plane}
use Rattle.picture_planes.specs.Samples.{SameShape}
use Rattle.picture_planes.specs.Margins.{buffer_row, buffer_height}

-- a row of the buffer with its margins made the samples at its ends
abbrev pub with_sides : ℕ → ℕ → List ℕ → List ℕ
with_sides pad width r = replicate pad (slice_index r pad) ++ (take width (drop pad r) ++ replicate pad (slice_index r (pad + width - 1)))

-- row y of the new buffer is w, and the others are old
pub record OneRow (y : ℕ) (w : List ℕ) (old new : Plane) : Type 0 where
  pub shape : SameShape old new
  pub written : buffer_row new y ≡ w
  pub others : (z : ℕ) → z < buffer_height old → z ≢ y → buffer_row new z ≡ buffer_row old z

-- the rows of the new buffer: those before `low` are the plane's first with its sides, those from the plane's first to
-- `mid` are old with their sides, those of the plane from there on are old, and those past the plane and before `high`
-- are the plane's last with its sides
pub record Edged (low mid high : ℕ) (old new : Plane) : Type 0 where
  pub shape : SameShape old new
  pub top : (z : ℕ) → z < low → buffer_row new z ≡ with_sides old.pad old.width (buffer_row old old.pad)
  pub middle : (z : ℕ) → old.pad ≤ z → z < mid → buffer_row new z ≡ with_sides old.pad old.width (buffer_row old z)
  pub left : (z : ℕ) → mid ≤ z → z < old.pad + old.height → buffer_row new z ≡ buffer_row old z
  pub bottom : (z : ℕ) → old.pad + old.height ≤ z → z < high → buffer_row new z ≡ with_sides old.pad old.width (buffer_row old (old.pad + old.height - 1))
