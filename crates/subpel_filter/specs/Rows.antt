-- Rows of half samples, made from rows of samples.
use Rattle.std.specs.Prelude.{ℕ, pos, List, slice_index, min, ◌+◌, ◌-◌, ◌*◌, ◌/◌, ◌<◌, ◌≤◌, ◌≡◌, ◌+ℤ◌}
use Rattle.spec_inter.specs.Taps.{tap, half}

-- the half sample of six samples of a row, from place i on
unfoldable pub half_at : List ℕ → ℕ → ℕ
half_at xs i = half (tap (pos (slice_index xs i)) (pos (slice_index xs (i + 1))) (pos (slice_index xs (i + 2))) (pos (slice_index xs (i + 3))) (pos (slice_index xs (i + 4))) (pos (slice_index xs (i + 5))))

-- the first n of out are the half samples along xs
abbrev pub HalvesOf : List ℕ → List ℕ → ℕ → Type 0
HalvesOf xs out n = (i : ℕ) → i < n → slice_index out i ≡ half_at xs i

-- v is the taps over six samples of a row, from place i on, with 2550 added: the least that taps come to is -2550
pub record RawOf (xs : List ℕ) (i v : ℕ) : Type 0 where
  pub same : pos v ≡ tap (pos (slice_index xs i)) (pos (slice_index xs (i + 1))) (pos (slice_index xs (i + 2))) (pos (slice_index xs (i + 3))) (pos (slice_index xs (i + 4))) (pos (slice_index xs (i + 5))) +ℤ pos 2550
  pub most : v ≤ 13260

abbrev pub RawsOf : List ℕ → List ℕ → ℕ → Type 0
RawsOf xs out n = (i : ℕ) → i < n → RawOf xs i (slice_index out i)

-- the half sample of place i of six rows
unfoldable pub half_down : List ℕ → List ℕ → List ℕ → List ℕ → List ℕ → List ℕ → ℕ → ℕ
half_down a b c d e f i = half (tap (pos (slice_index a i)) (pos (slice_index b i)) (pos (slice_index c i)) (pos (slice_index d i)) (pos (slice_index e i)) (pos (slice_index f i)))

-- the half sample of six taps that aren't rounded, with 2550 added to each
abbrev pub middle : ℕ → ℕ → ℕ → ℕ → ℕ → ℕ → ℕ
middle a b c d e f = min ((a + 20 * (c + d) + f + 512 - (5 * (b + e) + 81600)) / 1024) 255

unfoldable pub middle_down : List ℕ → List ℕ → List ℕ → List ℕ → List ℕ → List ℕ → ℕ → ℕ
middle_down a b c d e f i = middle (slice_index a i) (slice_index b i) (slice_index c i) (slice_index d i) (slice_index e i) (slice_index f i)

-- each of the first n is at most 13260
abbrev pub AreRaw : List ℕ → ℕ → Type 0
AreRaw xs n = (i : ℕ) → i < n → slice_index xs i ≤ 13260

-- v is the taps over place i of six rows, with 2550 added
pub record RawDown (a b c d e f : List ℕ) (i v : ℕ) : Type 0 where
  pub same : pos v ≡ tap (pos (slice_index a i)) (pos (slice_index b i)) (pos (slice_index c i)) (pos (slice_index d i)) (pos (slice_index e i)) (pos (slice_index f i)) +ℤ pos 2550
  pub most : v ≤ 13260

-- the half sample of six taps of a row that aren't rounded, from place i on
unfoldable pub middle_across : List ℕ → ℕ → ℕ
middle_across xs i = middle (slice_index xs i) (slice_index xs (i + 1)) (slice_index xs (i + 2)) (slice_index xs (i + 3)) (slice_index xs (i + 4)) (slice_index xs (i + 5))

-- in a row of n with two places more before it and more after it: the place of the row that is nearest to place i
abbrev pub ended : ℕ → ℕ → ℕ
ended n i = min (i - 2) (n - 1)
