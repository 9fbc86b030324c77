-- Rows that all rows of a film's planes are parts of.
use Rattle.std.specs.Prelude.{ℕ, ◌+◌, ◌-◌, ◌*◌, ◌/◌, ◌%◌, ◌<◌, ◌≡◌, List, length, get_or, take, drop}
use Rattle.std.specs.List.{range_with_len, flat_map}

-- eight rows of 1984 samples: row i has the squares of the noise's row i, eight samples a square, over and over
pub record IsBand (noise band : List ℕ) : Type 0 where
  pub size : length band ≡ 15872
  pub each : (k : ℕ) → k < 15872 → get_or band k 0 ≡ get_or noise (8 * (k / 1984) + k % 1984 % 64 / 8) 0

-- the same for half as many samples: each is f of every second sample of the band
pub record IsHalfBand (f : ℕ → ℕ) (band half : List ℕ) : Type 0 where
  pub size : length half ≡ 7936
  pub each : (k : ℕ) → k < 7936 → get_or half k 0 ≡ f (get_or band (2 * k) 0)

-- so many rows of so many samples; row y stands in the band from `place y` on
abbrev pub rows_cut : (ℕ → ℕ) → ℕ → ℕ → List ℕ → List ℕ
rows_cut place width height band = flat_map (λ y. take width (drop (place y) band)) (range_with_len 0 height)

-- where the rows of picture t begin in a band of luma, and in one of chroma
abbrev pub luma_place : ℕ → ℕ → ℕ
luma_place t y = 1984 * ((y + t) % 64 / 8) + 2 * t % 64

abbrev pub chroma_place : ℕ → ℕ → ℕ
chroma_place t y = 992 * ((2 * y + t) % 64 / 8) + t % 32

-- samples of Cb and Cr by those of luma
abbrev pub cb_of : ℕ → ℕ
cb_of v = v / 2 + 64

abbrev pub cr_of : ℕ → ℕ
cr_of v = 255 - v
