-- Filling a block place by place.
use Rattle.std.proofs.Common.{◌≡◌, ℕ, ◌+◌, ◌*◌, ◌/◌, ◌%◌, ◌<◌, List, length, get_or, set, arith, ◌∙◌}
use Rattle.std.proofs.lemmas.List.FromFn.{fill_by_all, get_or-map-range_with_len, length-map-range_with_len}
use Rattle.std.proofs.Math.Nat.{mod-lt, div-lt_iff_lt-mul}
use Rattle.std.proofs.lemmas.List.Edits.{fill_by_more}
use Rattle.std.proofs.Math.ListN.{length-set}
use Rattle.spec_intra.specs.Block.{block, line}

pub record Filled (n : ℕ) (f : ℕ → ℕ → ℕ) (k : ℕ) (xs : List ℕ) : Type 0 where
  pub size : length xs ≡ n * n
  pub each : (i : ℕ) → i < k → get_or xs i 0 ≡ f (i % n) (i / n)

pub filled_all : (n : ℕ) (f : ℕ → ℕ → ℕ) (xs : List ℕ) → Filled n f (n * n) xs → xs ≡ block n f
unfolding block
filled_all n f xs h = fill_by_all (λ k. f (k % n) (k / n)) xs (n * n) 0 h.size h.each

pub filled_more : (n : ℕ) (f : ℕ → ℕ → ℕ) (k v : ℕ) (xs : List ℕ) → k < n * n → v ≡ f (k % n) (k / n) → Filled n f k xs → Filled n f (k + 1) (set xs k v)
filled_more n f k v xs lt e h = record {
  size = length-set xs k v ∙ h.size;
  each = rw e (fill_by_more (λ i. f (i % n) (i / n)) xs k 0 (omega arith) h.each);
}

pub block_at : (n : ℕ) (f : ℕ → ℕ → ℕ) (k : ℕ) → k < n * n → get_or (block n f) k 0 ≡ f (k % n) (k / n)
unfolding block
block_at n f k h = get_or-map-range_with_len (λ i. f (i % n) (i / n)) 0 (n * n) k k 0 h (omega arith)

pub record Lined (f : ℕ → ℕ) (k : ℕ) (xs : List ℕ) : Type 0 where
  pub each : (i : ℕ) → i < k → get_or xs i 0 ≡ f i

pub lined_all : (n : ℕ) (f : ℕ → ℕ) (xs : List ℕ) → length xs ≡ n → Lined f n xs → xs ≡ line n f
unfolding line
lined_all n f xs e h = fill_by_all f xs n 0 e h.each

pub lined_more : (f : ℕ → ℕ) (k v : ℕ) (xs : List ℕ) → k < length xs → v ≡ f k → Lined f k xs → Lined f (k + 1) (set xs k v)
lined_more f k v xs lt e h = record { each = rw e (fill_by_more f xs k 0 lt h.each) }

pub line_at : (n : ℕ) (f : ℕ → ℕ) (k : ℕ) → k < n → get_or (line n f) k 0 ≡ f k
unfolding line
line_at n f k h = get_or-map-range_with_len f 0 n k k 0 h (omega arith)

length_block : (n : ℕ) (f : ℕ → ℕ → ℕ) → length (block n f) ≡ n * n
unfolding block
length_block n f = length-map-range_with_len (λ k. f (k % n) (k / n)) 0 (n * n)

fill_block : (n : ℕ) (f : ℕ → ℕ → ℕ) (xs : List ℕ) → length xs ≡ n * n → ((k : ℕ) → k < n * n → get_or xs k 0 ≡ f (k % n) (k / n)) → xs ≡ block n f
unfolding block
fill_block n f xs e h = fill_by_all (λ k. f (k % n) (k / n)) xs (n * n) 0 e h

-- two functions that agree inside give one block
pub block_same : (n : ℕ) (f g : ℕ → ℕ → ℕ) → 0 < n → ((x y : ℕ) → x < n → y < n → f x y ≡ g x y) → block n f ≡ block n g
block_same n f g some same =
    fill_block n g (block n f) (length_block n f)
    (λ k h. block_at n f k h ∙ same (k % n) (k / n) (mod-lt k some) ((div-lt_iff_lt-mul some).1 h))
