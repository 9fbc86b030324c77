-- The four sub-macroblocks of a macroblock: their differences and their bounds.
use Rattle.std.proofs.Common.{◌≡◌, ℕ, zero, suc, ◌+◌, ◌-◌, ◌*◌, ◌<◌, ◌≤◌, inl, inr, List, [], ◌∷◌, get_or, refl, sym, ap, ◌∙◌, arith}
use Rattle.std.specs.Prelude.{slice_index}
use Rattle.std.specs.Int.{abs_diff}
use Rattle.spec_kernels.specs.Sums.{block_difference}
use Rattle.spec_kernels.proofs.SumLaws.{block-most}
use Rattle.spec_search.specs.declared.blocks.Block.{Block}
use Rattle.spec_search.specs.declared.blocks.Spot.{Spot}
use Rattle.spec_search.specs.Scan.{dx_of, dy_of}
use Rattle.spec_search.specs.Window.{bound_of}
use Rattle.spec_inter_plans.specs.InterPlans.{at as block_at, partitions}
use Rattle.picture_planes.specs.declared.plane.Plane.{Plane}
use Rattle.picture_planes.specs.Samples.{at}
use Rattle.picture_planes.specs.Margins.{nearest}
use Rattle.block_sums.specs.declared.table.SumTable.{SumTable}
use Rattle.block_sums.specs.Tables.{IsTableOf, sum_at}
use Rattle.motion_search.specs.Planes.{bounds, Searchable, IsBlockIn, IsNear, OwnSums}
use Rattle.nine_search.specs.Partitions.{partition_block}
use Rattle.motion_search.proofs.Parts.{part_moved, apart_same}
use Rattle.nine_search.proofs.Summing.{sums_apart, one_apart, bounds_add, sub_is, at_same}

pub four : (f : ℕ → ℕ) (a b c d : ℕ) → a ≡ f 0 → b ≡ f 1 → c ≡ f 2 → d ≡ f 3 → (q : ℕ) → q < 4 → get_or (a ∷ b ∷ c ∷ d ∷ []) q 0 ≡ f q
four f a b c d e0 e1 e2 e3 zero p = e0
four f a b c d e0 e1 e2 e3 (suc zero) p = e1
four f a b c d e0 e1 e2 e3 (suc (suc zero)) p = e2
four f a b c d e0 e1 e2 e3 (suc (suc (suc zero))) p = e3
four f a b c d e0 e1 e2 e3 (suc (suc (suc (suc q)))) p = absurd (omega arith)

pub four_small : (a b c d : ℕ) → a < 65536 → b < 65536 → c < 65536 → d < 65536 → (q : ℕ) → get_or (a ∷ b ∷ c ∷ d ∷ []) q 0 < 65536
four_small a b c d e0 e1 e2 e3 zero = e0
four_small a b c d e0 e1 e2 e3 (suc zero) = e1
four_small a b c d e0 e1 e2 e3 (suc (suc zero)) = e2
four_small a b c d e0 e1 e2 e3 (suc (suc (suc zero))) = e3
four_small a b c d e0 e1 e2 e3 (suc (suc (suc (suc q)))) = omega arith

-- a sub-macroblock can be searched where the macroblock can
pub sub_searchable : (s r : Plane) (x y u v : ℕ) → Searchable s r (block_at x y 16 16) → u ≤ x + 8 → v ≤ y + 8 → Searchable s r (block_at u v 8 8)
sub_searchable s r x y u v h p q =
    let a = h.inside.across in
    let b = h.inside.down in
    record {
      margin = h.margin;
      filled = h.filled;
      sizes = h.sizes;
      inside = record { across = omega arith; down = omega arith; wide = inl refl; high = inl refl };
    }

-- a partition lies where the macroblock does
pub partition_inside : (w h x y k : ℕ) → IsBlockIn w h (block_at x y 16 16) → k < 9 → IsBlockIn w h (partition_block x y k)
unfolding partitions
partition_inside w h x y zero i p = i
partition_inside w h x y (suc zero) i p = let a = i.across in let b = i.down in record { across = omega arith; down = omega arith; wide = inr refl; high = inl refl }
partition_inside w h x y (suc (suc zero)) i p = let a = i.across in let b = i.down in record { across = omega arith; down = omega arith; wide = inr refl; high = inl refl }
partition_inside w h x y (suc (suc (suc zero))) i p = let a = i.across in let b = i.down in record { across = omega arith; down = omega arith; wide = inl refl; high = inr refl }
partition_inside w h x y (suc (suc (suc (suc zero)))) i p = let a = i.across in let b = i.down in record { across = omega arith; down = omega arith; wide = inl refl; high = inr refl }
partition_inside w h x y (suc (suc (suc (suc (suc zero))))) i p = let a = i.across in let b = i.down in record { across = omega arith; down = omega arith; wide = inl refl; high = inl refl }
partition_inside w h x y (suc (suc (suc (suc (suc (suc zero)))))) i p = let a = i.across in let b = i.down in record { across = omega arith; down = omega arith; wide = inl refl; high = inl refl }
partition_inside w h x y (suc (suc (suc (suc (suc (suc (suc zero))))))) i p = let a = i.across in let b = i.down in record { across = omega arith; down = omega arith; wide = inl refl; high = inl refl }
partition_inside w h x y (suc (suc (suc (suc (suc (suc (suc (suc zero)))))))) i p = let a = i.across in let b = i.down in record { across = omega arith; down = omega arith; wide = inl refl; high = inl refl }
partition_inside w h x y (suc (suc (suc (suc (suc (suc (suc (suc (suc k))))))))) i p = absurd (omega arith)

-- an item of the list of the nine partitions
pub block_is : (blocks : List Block) (d : Block) (x y k : ℕ) → blocks ≡ partitions x y → k < 9 → get_or blocks k d ≡ partition_block x y k
unfolding partitions
block_is blocks d x y k e p = ap (λ (l : List Block). get_or l k d) e ∙ by k p
  where
    by : (k : ℕ) → k < 9 → get_or (partitions x y) k d ≡ partition_block x y k
    by zero p = refl
    by (suc zero) p = refl
    by (suc (suc zero)) p = refl
    by (suc (suc (suc zero))) p = refl
    by (suc (suc (suc (suc zero)))) p = refl
    by (suc (suc (suc (suc (suc zero))))) p = refl
    by (suc (suc (suc (suc (suc (suc zero)))))) p = refl
    by (suc (suc (suc (suc (suc (suc (suc zero))))))) p = refl
    by (suc (suc (suc (suc (suc (suc (suc (suc zero)))))))) p = refl
    by (suc (suc (suc (suc (suc (suc (suc (suc (suc k))))))))) p = absurd (omega arith)

-- how far the sums of the sub-macroblock in column k and row l are apart is its bound
pub bound_is : (t : SumTable) (s r : Plane) (x y k l u v c d mine other apart : ℕ) (spot : Spot) (sums : List ℕ)
    → OwnSums s (block_at x y 16 16) sums → IsTableOf t r → t.pad ≡ 40 → IsBlockIn t.width t.height (block_at x y 16 16) → IsNear spot → k < 2 → l < 2
    → u ≡ x + 8 * k → v ≡ y + 8 * l → c ≡ x + t.pad + spot.column - spot.ring + 8 * k → d ≡ y + t.pad + spot.row - spot.ring + 8 * l
    → mine ≡ slice_index sums (2 * l + k) → other ≡ sum_at t c d → apart ≡ abs_diff mine other
    → apart ≡ bounds s r (block_at u v 8 8) (dx_of spot) (dy_of spot)
bound_is t s r x y k l u v c d mine other apart spot sums o h m ib near p q ue ve ce de me oe e =
    apart_same mine other _ _ apart e (me ∙ o k l p q) (oe ∙ part_moved t r (block_at x y 16 16) spot k l c d h m ib near p q ce de)
    ∙ one_apart (at s) (nearest r) (dx_of spot) (dy_of spot) x y k l
    ∙ at_same (sums_apart (at s) (nearest r) (dx_of spot) (dy_of spot)) (x + 8 * k) (y + 8 * l) u v (sym ue) (sym ve)
    ∙ sym (sub_is (λ block. bound_of (at s) (nearest r) block (dx_of spot) (dy_of spot)) (sums_apart (at s) (nearest r) (dx_of spot) (dy_of spot)) (bounds_add (at s) (nearest r) (dx_of spot) (dy_of spot)) u v)

-- the difference of two blocks of 8x8 bytes
pub difference_small : (f g : ℕ → ℕ → ℕ) → ((i j : ℕ) → i < 8 → j < 8 → f i j < 256) → ((i j : ℕ) → i < 8 → j < 8 → g i j < 256) → block_difference f g 8 8 < 65536
difference_small f g a b =
    let m = block-most (λ i j. abs_diff (f i j) (g i j)) 255 8 8 (λ i j p q. (let x = a i j p q in let y = b i j p q in omega arith)) in
    omega arith
