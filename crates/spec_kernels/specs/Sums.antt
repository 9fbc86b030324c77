-- Sums and differences of rows and blocks of samples, and the taps of the half-sample filter.
use Rattle.std.specs.Prelude.{ℕ, ℤ, List, slice_index, slice_index_or, ◌+◌, ◌*◌, ◌<◌, ◌≤◌, ◌≡◌, pos, ◌-ℤ◌}
use Rattle.std.specs.Int.{abs_diff}
use Rattle.spec_basics.specs.Sums.{sum_below}

-- ROWS

-- the filter taps 1, -5, 20, 20, -5, 1 over six samples (ITU-T H.264, clause 8.4.2.2.1)
abbrev pub tap_of : ℕ → ℕ → ℕ → ℕ → ℕ → ℕ → ℤ
tap_of a b c d e f = pos (a + 20 * (c + d) + f) -ℤ pos (5 * (b + e))

-- the taps over the six samples from place i on
abbrev pub tap_at : List ℕ → ℕ → ℤ
tap_at xs i = tap_of (slice_index xs i) (slice_index xs (i + 1)) (slice_index xs (i + 2)) (slice_index xs (i + 3)) (slice_index xs (i + 4)) (slice_index xs (i + 5))

-- the first n items of ys are the taps of xs
abbrev pub TapsOf : List ℕ → List ℤ → ℕ → Type 0
TapsOf xs ys n = (i : ℕ) → i < n → slice_index_or ys i (pos 0) ≡ tap_at xs i

-- BLOCKS: samples as a function of column and row

-- the sum of the samples of the first w columns and h rows
unfoldable pub block_sum : (ℕ → ℕ → ℕ) → ℕ → ℕ → ℕ
block_sum f w h = sum_below (λ j. sum_below (λ i. f i j) w) h

-- the sum of absolute differences of two blocks
abbrev pub block_difference : (ℕ → ℕ → ℕ) → (ℕ → ℕ → ℕ) → ℕ → ℕ → ℕ
block_difference f g w h = block_sum (λ i j. abs_diff (f i j) (g i j)) w h

-- the sample of column i and row j where rows lie one after another, `stride` items apart
abbrev pub strided : List ℕ → ℕ → ℕ → ℕ → ℕ
strided xs stride i j = slice_index xs (j * stride + i)

-- the block that begins at column c and row r
abbrev pub shifted : (ℕ → ℕ → ℕ) → ℕ → ℕ → ℕ → ℕ → ℕ
shifted f c r i j = f (c + i) (r + j)

-- BOUNDS: the sums of blocks tell how far the blocks differ at least

-- how far the sums of two blocks are apart
abbrev pub sum_apart : (ℕ → ℕ → ℕ) → (ℕ → ℕ → ℕ) → ℕ → ℕ → ℕ
sum_apart f g w h = abs_diff (block_sum f w h) (block_sum g w h)

-- how far the sums of two blocks' 8x8 parts are apart, all parts together; there are m parts in a row and n in a column
abbrev pub parts_apart : (ℕ → ℕ → ℕ) → (ℕ → ℕ → ℕ) → ℕ → ℕ → ℕ
parts_apart f g m n = block_sum (λ k l. sum_apart (shifted f (8 * k) (8 * l)) (shifted g (8 * k) (8 * l)) 8 8) m n

abbrev pub BoundBelow : Type 0
BoundBelow = (f g : ℕ → ℕ → ℕ) (w h : ℕ) → sum_apart f g w h ≤ block_difference f g w h

abbrev pub BoundAdds : Type 0
BoundAdds = (f g : ℕ → ℕ → ℕ) (m n : ℕ) → parts_apart f g m n ≤ block_difference f g (8 * m) (8 * n)
