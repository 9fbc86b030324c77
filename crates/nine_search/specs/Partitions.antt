-- The nine partitions of a macroblock, each of some of its four sub-macroblocks of 8x8 samples (ITU-T H.264, clause 6.4).
use Rattle.std.specs.Prelude.{ℕ, List, [], ◌∷◌, get_or, map, sum, ◌+◌}
use Rattle.spec_search.specs.declared.blocks.Block.{Block}
use Rattle.spec_inter_plans.specs.InterPlans.{at, partitions}

-- partition k of the macroblock at (x, y)
abbrev pub partition_block : ℕ → ℕ → ℕ → Block
partition_block x y k = get_or (partitions x y) k (at x y 16 16)

-- its sub-macroblock q
abbrev pub sub_macroblock : ℕ → ℕ → ℕ → Block
sub_macroblock x y q = get_or (at x y 8 8 ∷ at (x + 8) y 8 8 ∷ at x (y + 8) 8 8 ∷ at (x + 8) (y + 8) 8 8 ∷ []) q (at x y 8 8)

-- the sub-macroblocks of each partition
abbrev pub members : List (List ℕ)
members = (0 ∷ 1 ∷ 2 ∷ 3 ∷ []) ∷ (0 ∷ 1 ∷ []) ∷ (2 ∷ 3 ∷ []) ∷ (0 ∷ 2 ∷ []) ∷ (1 ∷ 3 ∷ []) ∷ (0 ∷ []) ∷ (1 ∷ []) ∷ (2 ∷ []) ∷ (3 ∷ []) ∷ []

-- the sum of f over the sub-macroblocks of partition k
unfoldable pub of_partition : (ℕ → ℕ) → ℕ → ℕ
of_partition f k = sum (map f (get_or members k []))

-- what is known of sub-macroblock q at each place, for partition k
abbrev pub partition_of : (ℕ → ℕ → ℕ) → ℕ → ℕ → ℕ
partition_of f k place = of_partition (λ q. f q place) k
