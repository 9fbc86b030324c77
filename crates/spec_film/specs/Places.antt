-- Samples of a plane at any place.
use Rattle.std.specs.Prelude.{ℕ, ℤ, pos, negsuc, min, List, get_or, ◌+◌, ◌-◌, ◌*◌}

-- the place from 0 to size - 1 that is nearest
abbrev pub clamped_to : ℤ → ℕ → ℕ
clamped_to (pos n) size = min n (size - 1)
clamped_to (negsuc n) size = 0

-- a whole number, where it isn't below 0
abbrev pub place_of : ℤ → ℕ
place_of (pos n) = n
place_of (negsuc n) = 0

-- of samples that stand row by row, `width` in each of `height` rows: the one at column x of row y. A place outside has
-- the sample of the nearest place inside (ITU-T H.264, clauses 8.4.2.2.1 and 8.4.2.2.2: coordinates are clipped to the
-- plane)
unfoldable pub sample_at : ℕ → ℕ → List ℕ → ℤ → ℤ → ℕ
sample_at width height samples x y = get_or samples (clamped_to y height * width + clamped_to x width) 0
