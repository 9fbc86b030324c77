-- Blocks of signed numbers, written row by row, and matrices.
use Rattle.std.specs.Prelude.{ℕ, zero, suc, ℤ, pos, negsuc, ◌+ℤ◌, ◌*ℤ◌, Bool, true, false, List, [], map, slice_index, slice_index_or, ◌<◌, ◌+◌, ◌*◌, ◌^◌}
use Rattle.std.specs.Int.{int_shr}
use Rattle.std.specs.List.{range_with_len, count_by}
use Rattle.spec_basics.specs.Bounds.{Within}
use Rattle.spec_basics.specs.Sums.{int_sum_below}

-- the value in row i and column j of a table
abbrev pub in_table : List (List ℕ) → ℕ → ℕ → ℕ
in_table rows i j = slice_index (slice_index_or rows i []) j

-- the value at place p
abbrev pub item : List ℤ → ℕ → ℤ
item xs p = slice_index_or xs p (pos 0)

-- the first n items are at most b in size
abbrev pub AllWithin : ℕ → ℕ → List ℤ → Type 0
AllWithin n b xs = (p : ℕ) → p < n → Within b (item xs p)

-- the values of f at the places below n
unfoldable pub listed : ℕ → (ℕ → ℤ) → List ℤ
listed n f = map f (range_with_len 0 n)

-- the block of n columns that is written row by row, as a matrix
abbrev pub block : ℕ → List ℤ → ℕ → ℕ → ℤ
block n xs i j = item xs (n * i + j)

-- the matrix with these rows
abbrev pub rows_of : List (List ℤ) → ℕ → ℕ → ℤ
rows_of rows i j = item (slice_index_or rows i []) j

abbrev pub transposed : (ℕ → ℕ → ℤ) → ℕ → ℕ → ℤ
transposed a i j = a j i

-- the product of two matrices, where a has n columns and b has n rows
abbrev pub product : ℕ → (ℕ → ℕ → ℤ) → (ℕ → ℕ → ℤ) → ℕ → ℕ → ℤ
product n a b i j = int_sum_below n (λ k. a i k *ℤ b k j)

-- C·(X·Cᵀ)
abbrev pub transformed : ℕ → (ℕ → ℕ → ℤ) → (ℕ → ℕ → ℤ) → ℕ → ℕ → ℤ
transformed n c x = product n c (product n x (transposed c))

-- (x + 2^s) >> (s + 1): x / 2^(s + 1), rounded to the nearest whole number
abbrev pub rounded : ℕ → ℤ → ℤ
rounded s x = int_shr (x +ℤ pos (2 ^ s)) (s + 1)

abbrev pub is_nonzero : ℤ → Bool
is_nonzero (pos zero) = false
is_nonzero (pos (suc n)) = true
is_nonzero (negsuc n) = true

-- how many of these levels aren't zero
unfoldable pub nonzero_levels : List ℤ → ℕ
nonzero_levels levels = count_by is_nonzero levels
