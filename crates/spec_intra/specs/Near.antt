-- Which neighbours a macroblock and its blocks have, and the samples that they are.
use Rattle.std.specs.Prelude.{ℕ, Bool, not, List, ◌++◌, ◌+◌, ◌-◌, ◌*◌, ◌%◌, ◌==◌, ◌&&◌, ◌||◌, nat_lt, nat_le, cond, replicate, slice_index}
use Rattle.spec_basics.specs.Blocks.{block_number}
use Rattle.spec_intra.specs.declared.Avail.{Avail}
use Rattle.spec_intra.specs.declared.Nb4.{Nb4}
use Rattle.spec_intra.specs.declared.Nb8.{Nb8}
use Rattle.spec_intra.specs.declared.Nb16.{Nb16}
use Rattle.spec_intra.specs.declared.NbC.{NbC}
use Rattle.spec_intra.specs.Block.{line}

-- MACROBLOCKS. A neighbouring macroblock is available where it is in the same slice and earlier (clauses 6.4.8 and 6.4.9). A
-- picture has `width` macroblocks in a row, and the slice begins with macroblock `first`.
abbrev pub macroblock_avail : ℕ → ℕ → ℕ → Avail
macroblock_avail width first address = record {
  left = not (address % width == 0) && nat_le (first + 1) address;
  above = nat_le (first + width) address;
  corner = not (address % width == 0) && nat_le (first + width + 1) address;
  above_right = not ((address + 1) % width == 0) && nat_le (first + width) (address + 1);
}

-- BLOCKS of a macroblock, which has n in a row: 4 of 4x4, 2 of 8x8, 1 of 16x16. They are numbered in decoding order.

-- the block in this column and row, where `mb` are the macroblock's neighbours. A block of the same macroblock is available where
-- it precedes in decoding order (clause 6.4.11.4)
abbrev pub block_avail : ℕ → Avail → ℕ → ℕ → Avail
block_avail n mb column row = record {
  left = nat_lt 0 column || mb.left;
  above = nat_lt 0 row || mb.above;
  corner = cond (nat_lt 0 row) (nat_lt 0 column || mb.left) (cond (nat_lt 0 column) mb.above mb.corner);
  above_right =
      cond (nat_lt 0 row)
      (nat_lt (column + 1) n && nat_lt (block_number (column + 1) (row - 1)) (block_number column row))
      (cond (nat_lt (column + 1) n) mb.above mb.above_right);
}

-- THE SAMPLES. `at x y` is the sample at column x of row y of a plane, and a block begins at (x, y). A line that isn't available
-- is taken as zeros.
abbrev pub plane_sample : ℕ → List ℕ → ℕ → ℕ → ℕ
plane_sample width samples x y = slice_index samples (y * width + x)

unfoldable pub line_there : Bool → ℕ → (ℕ → ℕ) → List ℕ
line_there there n f = cond there (line n f) (replicate n 0)

abbrev pub above_at : (ℕ → ℕ → ℕ) → ℕ → ℕ → ℕ → Bool → List ℕ
above_at at n x y there = line_there there n (λ k. at (x + k) (y - 1))

abbrev pub left_at : (ℕ → ℕ → ℕ) → ℕ → ℕ → ℕ → Bool → List ℕ
left_at at n x y there = line_there there n (λ k. at (x - 1) (y + k))

abbrev pub corner_at : (ℕ → ℕ → ℕ) → ℕ → ℕ → Bool → ℕ
corner_at at x y there = cond there (at (x - 1) (y - 1)) 0

unfoldable pub neighbours4 : (ℕ → ℕ → ℕ) → Avail → ℕ → ℕ → Nb4
neighbours4 at avail x y = record {
  above = above_at at 4 x y avail.above ++ above_at at 4 (x + 4) y avail.above_right;
  left = left_at at 4 x y avail.left;
  corner = corner_at at x y avail.corner;
  avail = avail;
}

unfoldable pub neighbours8 : (ℕ → ℕ → ℕ) → Avail → ℕ → ℕ → Nb8
neighbours8 at avail x y = record {
  above = above_at at 8 x y avail.above ++ above_at at 8 (x + 8) y avail.above_right;
  left = left_at at 8 x y avail.left;
  corner = corner_at at x y avail.corner;
  avail = avail;
}

unfoldable pub neighbours16 : (ℕ → ℕ → ℕ) → Avail → ℕ → ℕ → Nb16
neighbours16 at avail x y = record {
  above = above_at at 16 x y avail.above;
  left = left_at at 16 x y avail.left;
  corner = corner_at at x y avail.corner;
  avail = avail;
}

unfoldable pub neighbours_chroma : (ℕ → ℕ → ℕ) → Avail → ℕ → ℕ → NbC
neighbours_chroma at avail x y = record {
  above = above_at at 8 x y avail.above;
  left = left_at at 8 x y avail.left;
  corner = corner_at at x y avail.corner;
  avail = avail;
}
