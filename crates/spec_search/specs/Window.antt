-- What a vector of a block's window costs, the best vector of the window, and how many are compared.
use Rattle.std.specs.Prelude.{ℕ, ℤ, pos, ◌+◌, ◌/◌, ◌<◌, ◌≤◌, ◌≡◌, ◌+ℤ◌}
use Rattle.spec_kernels.specs.Sums.{block_difference, parts_apart, shifted}
use Rattle.spec_search.specs.declared.blocks.Block.{Block}
use Rattle.spec_search.specs.Scan.{InRange, Before, spot_at, dx_of, dy_of, window_size}
use Rattle.spec_search.specs.Least.{compared_of}

-- The source's samples by column and row; the reference's at any place, where a place outside the plane has the sample
-- of the nearest place inside.

-- the block's samples in the source
abbrev pub own : (ℕ → ℕ → ℕ) → Block → ℕ → ℕ → ℕ
own source block = shifted source block.x block.y

-- the samples of the reference that lie a vector away from the block's
abbrev pub moved : (ℤ → ℤ → ℕ) → Block → ℤ → ℤ → ℕ → ℕ → ℕ
moved reference block dx dy i j = reference (pos (block.x + i) +ℤ dx) (pos (block.y + j) +ℤ dy)

-- the sum of absolute differences
unfoldable pub cost_of : (ℕ → ℕ → ℕ) → (ℤ → ℤ → ℕ) → Block → ℤ → ℤ → ℕ
cost_of source reference block dx dy = block_difference (own source block) (moved reference block dx dy) block.w block.h

-- how far the sums of the 8x8 parts are apart, all parts together
unfoldable pub bound_of : (ℕ → ℕ → ℕ) → (ℤ → ℤ → ℕ) → Block → ℤ → ℤ → ℕ
bound_of source reference block dx dy = parts_apart (own source block) (moved reference block dx dy) (block.w / 8) (block.h / 8)

-- of all vectors of the window this one has the least cost, and those that are tried before it cost more
pub record IsWindowBest (cost : ℤ → ℤ → ℕ) (range : ℕ) (dx dy : ℤ) (size : ℕ) : Type 0 where
  pub inside : InRange range dx dy
  pub is_cost : size ≡ cost dx dy
  pub is_least : (u v : ℤ) → InRange range u v → cost dx dy ≤ cost u v
  pub is_first : (u v : ℤ) → InRange range u v → Before u v dx dy → cost dx dy < cost u v

-- a function of vectors at each place of the scan
abbrev pub scanned : (ℤ → ℤ → ℕ) → ℕ → ℕ
scanned f n = f (dx_of (spot_at n)) (dy_of (spot_at n))

-- how many vectors of the window are compared: the first, and each whose bound is below the least cost of all before
abbrev pub compared_in : (ℤ → ℤ → ℕ) → (ℤ → ℤ → ℕ) → ℕ → ℕ
compared_in cost bound range = compared_of (scanned cost) (scanned bound) (window_size range)
