-- Costs and bounds of a block's vectors over planes.
use Rattle.std.specs.Prelude.{ℕ, ℤ, slice_index, ◌+◌, ◌*◌, ◌/◌, ◌<◌, ◌≤◌, ◌≡◌, ◌⊎◌}
use Rattle.spec_kernels.specs.Sums.{block_sum, shifted}
use Rattle.spec_search.specs.declared.blocks.Block.{Block}
use Rattle.spec_search.specs.declared.blocks.Spot.{Spot}
use Rattle.spec_search.specs.Window.{cost_of, bound_of, own}
use Rattle.picture_planes.specs.declared.plane.Plane.{Plane}
use Rattle.picture_planes.specs.Samples.{at}
use Rattle.picture_planes.specs.Margins.{nearest, IsFilled}
use Rattle.std.specs.Prelude.{List}

-- what each vector costs; samples outside the reference are those nearest inside
abbrev pub costs : Plane → Plane → Block → ℤ → ℤ → ℕ
costs source reference block = cost_of (at source) (nearest reference) block

-- what each vector costs at least, by the sums of 8x8 parts
abbrev pub bounds : Plane → Plane → Block → ℤ → ℤ → ℕ
bounds source reference block = bound_of (at source) (nearest reference) block

-- the block lies inside a plane of this size, and its sides are 8 or 16
pub record IsBlockIn (width height : ℕ) (block : Block) : Type 0 where
  pub across : block.x + block.w ≤ width
  pub down : block.y + block.h ≤ height
  pub wide : (block.w ≡ 8) ⊎ (block.w ≡ 16)
  pub high : (block.h ≡ 8) ⊎ (block.h ≡ 16)

abbrev pub IsBlockOf : Plane → Block → Type 0
IsBlockOf plane block = IsBlockIn plane.width plane.height block

-- source and reference have one size
pub record SameSize (source reference : Plane) : Type 0 where
  pub width : source.width ≡ reference.width
  pub height : source.height ≡ reference.height

-- a block of the source can be searched in the reference
pub record Searchable (source reference : Plane) (block : Block) : Type 0 where
  pub margin : reference.pad ≡ 40
  pub filled : IsFilled reference
  pub sizes : SameSize source reference
  pub inside : IsBlockOf source block

-- a vector of a window of at most 32
pub record IsNear (spot : Spot) : Type 0 where
  pub ring : spot.ring ≤ 32
  pub column : spot.column ≤ 2 * spot.ring
  pub row : spot.row ≤ 2 * spot.ring

-- the sums of the block's 8x8 parts, the part in column k and row l at 2 * l + k
abbrev pub OwnSums : Plane → Block → List ℕ → Type 0
OwnSums source block sums = (k l : ℕ) → k < block.w / 8 → l < block.h / 8 → slice_index sums (2 * l + k) ≡ block_sum (shifted (own (at source) block) (8 * k) (8 * l)) 8 8

-- each sum is that of 64 samples
pub record AreSmall (sums : List ℕ) : Type 0 where
  pub item : (q : ℕ) → slice_index sums q < 65536
