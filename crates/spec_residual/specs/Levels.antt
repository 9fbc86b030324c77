-- The quantiser.
use Rattle.std.specs.Prelude.{ℕ, suc, ℤ, pos, negsuc, neg_ℤ, Bool, if◌then◌else◌, List, slice_index, ◌≡◌, ◌+◌, ◌*◌, ◌/◌, ◌%◌, ◌^◌}
use Rattle.enc_tables.specs.declared.transform.TheConstants.{MULTIPLIER4, MULTIPLIER8, CLASS4, CLASS8, ZIGZAG4, ZIGZAG8}
use Rattle.spec_residual.specs.declared.BlockKind.{BlockKind}
use Rattle.spec_residual.specs.declared.BlockKind.TheVariants.{Luma4, Luma8, LumaDc, Chroma4, ChromaDc}
use Rattle.spec_basics.specs.Bounds.{Within}
use Rattle.spec_residual.specs.Blocks.{in_table, item, listed}

-- how many places a block of this kind has
abbrev pub places : BlockKind → ℕ
places Luma4 = 16
places Luma8 = 64
places LumaDc = 16
places Chroma4 = 16
places ChromaDc = 4

-- what a coefficient at place p, row by row, is multiplied by
unfoldable pub multiplier : BlockKind → ℕ → ℕ → ℕ
multiplier Luma4 qp p = in_table MULTIPLIER4 (qp % 6) (slice_index CLASS4 p)
multiplier Luma8 qp p = in_table MULTIPLIER8 (qp % 6) (slice_index CLASS8 p)
multiplier LumaDc qp p = in_table MULTIPLIER4 (qp % 6) 0
multiplier Chroma4 qp p = in_table MULTIPLIER4 (qp % 6) (slice_index CLASS4 p)
multiplier ChromaDc qp p = in_table MULTIPLIER4 (qp % 6) 0

-- by how many bits the product is shifted
unfoldable pub shift : BlockKind → ℕ → ℕ
shift Luma4 qp = 15 + qp / 6
shift Luma8 qp = 16 + qp / 6
shift LumaDc qp = 16 + qp / 6
shift Chroma4 qp = 15 + qp / 6
shift ChromaDc qp = 16 + qp / 6

-- a third of a step for intra macroblocks, a sixth for inter macroblocks
abbrev pub share : Bool → ℕ → ℕ
share intra step = if intra then step / 3 else step / 6

-- what is added before the shift
unfoldable pub rounding : BlockKind → Bool → ℕ → ℕ
rounding Luma4 intra qp = share intra (2 ^ (15 + qp / 6))
rounding Luma8 intra qp = share intra (2 ^ (16 + qp / 6))
rounding LumaDc intra qp = 2 * share intra (2 ^ (15 + qp / 6))
rounding Chroma4 intra qp = share intra (2 ^ (15 + qp / 6))
rounding ChromaDc intra qp = 2 * share intra (2 ^ (15 + qp / 6))

-- the sign of c times (|c|·m + f) >> s
abbrev pub signed_level : ℕ → ℕ → ℕ → ℤ → ℤ
signed_level m f s (pos n) = pos ((n * m + f) / 2 ^ s)
signed_level m f s (negsuc n) = neg_ℤ (pos ((suc n * m + f) / 2 ^ s))

-- the level of a coefficient c at place p, row by row
unfoldable pub level_of : BlockKind → Bool → ℕ → ℕ → ℤ → ℤ
level_of kind intra qp p c = signed_level (multiplier kind qp p) (rounding kind intra qp) (shift kind qp) c

-- the levels of a block of 4x4 coefficients in the order of the zigzag scan
unfoldable pub levels4_of : BlockKind → Bool → ℕ → List ℤ → List ℤ
levels4_of kind intra qp xs =
    listed 16 (λ s. level_of kind intra qp (slice_index ZIGZAG4 s) (item xs (slice_index ZIGZAG4 s)))

-- the levels of an 8x8 luma block in the order of the zigzag scan
unfoldable pub levels8_of : Bool → ℕ → List ℤ → List ℤ
levels8_of intra qp xs =
    listed 64 (λ s. level_of Luma8 intra qp (slice_index ZIGZAG8 s) (item xs (slice_index ZIGZAG8 s)))

-- the levels of chroma DC coefficients, which have no scan of their own
unfoldable pub chroma_dc_levels_of : Bool → ℕ → List ℤ → List ℤ
chroma_dc_levels_of intra qp xs = listed 4 (λ p. level_of ChromaDc intra qp p (item xs p))

-- the greatest size of a coefficient that the forward transforms make of residuals of 8-bit samples
abbrev pub greatest : BlockKind → ℕ
greatest Luma4 = 9180
greatest Luma8 = 16320
greatest LumaDc = 32640
greatest Chroma4 = 9180
greatest ChromaDc = 16320

-- the level at place p is the quantiser's of a coefficient of at most that size
pub record IsMade (kind : BlockKind) (intra : Bool) (qp p : ℕ) (level : ℤ) : Type 0 where
  pub coefficient : ℤ
  pub small : Within (greatest kind) coefficient
  pub made : level ≡ level_of kind intra qp p coefficient
