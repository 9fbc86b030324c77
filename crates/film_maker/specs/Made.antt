-- A film that is made from a number: squares of noise that move from picture to picture.
use Rattle.std.specs.Prelude.{ℕ, zero, suc, ◌+◌, ◌-◌, ◌*◌, ◌/◌, ◌%◌, ◌^◌, List, map, get_or}
use Rattle.std.specs.List.{range_with_len, flat_map}
use Rattle.spec_film.specs.declared.FilmHead.{FilmHead}
use Rattle.spec_film.specs.Films.{Planes}
use Rattle.spec_film.specs.Written.{film_text}

-- ---- numbers

-- a linear congruential generator with 64 bits of state
unfoldable pub next_state : ℕ → ℕ
next_state x = (6364136223846793005 * x + 1442695040888963407) % 2 ^ 64

-- the state after so many steps from the seed
unfoldable pub state_after : ℕ → ℕ → ℕ
state_after zero seed = seed
state_after (suc steps) seed = next_state (state_after steps seed)

-- the highest byte of each of the first 64 states behind the seed: eight rows of eight
unfoldable pub noise_of : ℕ → List ℕ
noise_of seed = map (λ k. state_after (k + 1) seed / 2 ^ 56) (range_with_len 0 64)

-- ---- samples

-- luma at column x of row y in picture t: each number of the noise fills a square of 8 by 8 samples, and the squares, over and over, move
-- up by one row and to the left by two columns from one picture to the next
unfoldable pub luma_at : List ℕ → ℕ → ℕ → ℕ → ℕ
luma_at noise t x y = get_or noise (8 * ((y + t) % 64 / 8) + (x + 2 * t) % 64 / 8) 0

-- chroma, by the luma sample at twice the column and twice the row
unfoldable pub cb_at : List ℕ → ℕ → ℕ → ℕ → ℕ
cb_at noise t x y = luma_at noise t (2 * x) (2 * y) / 2 + 64

unfoldable pub cr_at : List ℕ → ℕ → ℕ → ℕ → ℕ
cr_at noise t x y = 255 - luma_at noise t (2 * x) (2 * y)

-- ---- pictures

-- a plane, row by row, whose sample at column x of row y is f x y
unfoldable pub plane_by : (ℕ → ℕ → ℕ) → ℕ → ℕ → List ℕ
plane_by f width height = flat_map (λ y. map (λ x. f x y) (range_with_len 0 width)) (range_with_len 0 height)

-- picture t; where a size is odd, half of it is rounded down
unfoldable pub made_picture : List ℕ → ℕ → ℕ → ℕ → Planes
made_picture noise width height t = record {
  luma = plane_by (luma_at noise t) width height;
  cb = plane_by (cb_at noise t) (width / 2) (height / 2);
  cr = plane_by (cr_at noise t) (width / 2) (height / 2);
}

-- sizes as given, 25 pictures per second
abbrev pub made_head : ℕ → ℕ → FilmHead
made_head width height = record { width = width; height = height; num = 25; den = 1 }

-- the whole film, as the bytes of a written film
unfoldable pub made_film : ℕ → ℕ → ℕ → ℕ → List ℕ
made_film seed width height count = film_text (made_head width height) (map (made_picture (noise_of seed) width height) (range_with_len 0 count))
