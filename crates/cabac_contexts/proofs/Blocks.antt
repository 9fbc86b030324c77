-- What is computed for each of a macroblock's blocks.
use Rattle.std.proofs.Common.{◌≡◌, ◌<◌, ◌≤◌, ℕ, false, nat_eq, ◌==◌, bit_and, map, get_or, slice_index_or, refl, sym, ap, ◌∙◌, arith}
use Rattle.std.proofs.lemmas.List.FromFn.{get_or-map-range_with_len}
use Rattle.std.specs.List.{range_with_len}
use Rattle.spec_basics.specs.Blocks.{block_column, block_row}
use Rattle.spec_contexts.specs.Near.{left_block4, above_block4}
use Rattle.cabac_contexts.specs.declared.near.TheConstants.{LEFT4, ABOVE4}

-- functions with the same values at the numbers below n
pub same_below : {A : Type 0} (f g : ℕ → A) (d : A) (n : ℕ) → map f (range_with_len 0 n) ≡ map g (range_with_len 0 n) → (b : ℕ) → b < n → f b ≡ g b
same_below f g d n same b h =
    sym (get_or-map-range_with_len f 0 n b b d h (omega arith))
    ∙ ap (λ xs. get_or xs b d) same
    ∙ get_or-map-range_with_len g 0 n b b d h (omega arith)

pub left4_is : (b : ℕ) → b ≤ 15 → slice_index_or LEFT4 b 0 ≡ left_block4 b
unfolding left_block4
left4_is b h = same_below (λ k. slice_index_or LEFT4 k 0) left_block4 0 16 refl b (omega arith)

pub above4_is : (b : ℕ) → b ≤ 15 → slice_index_or ABOVE4 b 0 ≡ above_block4 b
unfolding above_block4
above4_is b h = same_below (λ k. slice_index_or ABOVE4 k 0) above_block4 0 16 refl b (omega arith)

pub leftmost4_is : (b : ℕ) → b ≤ 15 → nat_eq (bit_and b 5) 0 ≡ (block_column b == 0)
leftmost4_is b h = same_below (λ k. nat_eq (bit_and k 5) 0) (λ k. block_column k == 0) false 16 refl b (omega arith)

pub upmost4_is : (b : ℕ) → b ≤ 15 → nat_eq (bit_and b 10) 0 ≡ (block_row b == 0)
upmost4_is b h = same_below (λ k. nat_eq (bit_and k 10) 0) (λ k. block_row k == 0) false 16 refl b (omega arith)
