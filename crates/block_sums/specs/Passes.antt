-- Lists of sums to which items further on are added.
use Rattle.std.specs.Prelude.{ℕ, List, length, slice_index, ◌+◌, ◌*◌, ◌<◌, ◌≤◌, ◌≡◌}
use Rattle.spec_basics.specs.Sums.{sum_below}
use Rattle.spec_kernels.specs.Sums.{block_sum}

-- no item is above b
pub record AtMost (b : ℕ) (xs : List ℕ) : Type 0 where
  pub item : (n : ℕ) → slice_index xs n ≤ b

-- each new item is the old one and the old one that stands so many places behind it
pub record AddedAhead (ahead : ℕ) (old new : List ℕ) : Type 0 where
  pub item : (n : ℕ) → n + ahead < length old → slice_index new n ≡ slice_index old n + slice_index old (n + ahead)
  pub long : length new ≡ length old

-- each new item is the sum of eight old ones, so many places apart
pub record EightAhead (ahead : ℕ) (old new : List ℕ) : Type 0 where
  pub item : (n : ℕ) → n + ahead * 7 < length old → slice_index new n ≡ sum_below (λ i. slice_index old (n + ahead * i)) 8
  pub long : length new ≡ length old

-- each item is the sum of the 8x8 samples from its place on, in rows of so many
pub record SquareAhead (width : ℕ) (samples sums : List ℕ) : Type 0 where
  pub item : (n : ℕ) → n + width * 7 + 7 < length samples → slice_index sums n ≡ block_sum (λ i j. slice_index samples (n + width * j + i)) 8 8
  pub long : length sums ≡ length samples
