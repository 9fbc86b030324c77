-- The intra part of a macroblock's plan. Costs are sums of absolute differences of the source and its prediction, where the
-- neighbours are samples of the source too, available as the slice has them.
use Rattle.std.specs.Prelude.{ℕ, Bool, List, [], ◌∷◌, ◌+◌, ◌*◌, ◌/◌, ◌%◌, cond, map, replicate}
use Rattle.std.specs.List.{range_with_len}
use Rattle.enc_tables.specs.declared.records.MbPlan.{MbPlan}
use Rattle.enc_tables.specs.Plans.{blank_part}
use Rattle.spec_intra.specs.Block.{line}
use Rattle.spec_basics.specs.Sums.{sum_below, sad}
use Rattle.spec_film.specs.Films.{Planes}
use Rattle.spec_intra.specs.declared.Avail.{Avail}
use Rattle.spec_intra.specs.Predictions.{predicted4, predicted8, predicted16, predicted_chroma, is_allowed}
use Rattle.spec_intra.specs.Near.{macroblock_avail, block_avail, plane_sample, neighbours4, neighbours8, neighbours16, neighbours_chroma}
use Rattle.spec_basics.specs.Blocks.{block_column, block_row}
use Rattle.spec_reconstruction.specs.Parts.{block_at}
use Rattle.spec_choice.specs.declared.ModeCost.{ModeCost}
use Rattle.spec_choice.specs.Modes.{best_mode}

-- the best mode of the block at (x, y) of a plane with `wide` samples in a row, where `avail` are its neighbours: of a 4x4 and of
-- an 8x8 luma block, and of a luma macroblock
unfoldable pub best4 : ℕ → List ℕ → Avail → ℕ → ℕ → ModeCost
best4 wide luma avail x y =
    let near = neighbours4 (plane_sample wide luma) avail x y in
    best_mode 9 (λ m. is_allowed 4 m avail) (λ m. sad (block_at wide x y 4 luma) (predicted4 m near))

unfoldable pub best8 : ℕ → List ℕ → Avail → ℕ → ℕ → ModeCost
best8 wide luma avail x y =
    let near = neighbours8 (plane_sample wide luma) avail x y in
    best_mode 9 (λ m. is_allowed 8 m avail) (λ m. sad (block_at wide x y 8 luma) (predicted8 m near))

unfoldable pub best16 : ℕ → List ℕ → Avail → ℕ → ℕ → ModeCost
best16 wide luma avail x y =
    let near = neighbours16 (plane_sample wide luma) avail x y in
    best_mode 4 (λ m. is_allowed 16 m avail) (λ m. sad (block_at wide x y 16 luma) (predicted16 m near))

-- of chroma: what it costs in Cb and Cr together
unfoldable pub best_chroma : ℕ → List ℕ → List ℕ → Avail → ℕ → ℕ → ModeCost
best_chroma wide cb cr avail x y =
    let near_cb = neighbours_chroma (plane_sample wide cb) avail x y in
    let near_cr = neighbours_chroma (plane_sample wide cr) avail x y in
    best_mode 4 (λ m. is_allowed 2 m avail)
    (λ m. sad (block_at wide x y 8 cb) (predicted_chroma m near_cb) + sad (block_at wide x y 8 cr) (predicted_chroma m near_cr))

-- 4x4 block b and 8x8 block k of the macroblock whose upper left sample is at (x, y)
abbrev pub best4_of : ℕ → List ℕ → Avail → ℕ → ℕ → ℕ → ModeCost
best4_of wide luma mb x y b =
    best4 wide luma (block_avail 4 mb (block_column b) (block_row b)) (x + 4 * block_column b) (y + 4 * block_row b)

abbrev pub best8_of : ℕ → List ℕ → Avail → ℕ → ℕ → ℕ → ModeCost
best8_of wide luma mb x y k = best8 wide luma (block_avail 2 mb (k % 2) (k / 2)) (x + 8 * (k % 2)) (y + 8 * (k / 2))

-- f 0 + f 1 + .. + f (n - 1)
unfoldable pub total : ℕ → (ℕ → ℕ) → ℕ
total n f = sum_below f n

-- THE PLAN of macroblock `column` of row `row`, in a picture of `width` macroblocks in a row, where the slice begins with row
-- `first_row`. Without `t8x8` there is no Intra 8x8, and its items are 0. Nothing is planned for inter prediction.
unfoldable pub intra_plan : ℕ → ℕ → Bool → Planes → ℕ → ℕ → MbPlan
intra_plan width first_row t8x8 source row column =
    let mb = macroblock_avail width (first_row * width) (row * width + column) in
    let whole = best16 (16 * width) source.luma mb (16 * column) (16 * row) in
    let best4_at = best4_of (16 * width) source.luma mb (16 * column) (16 * row) in
    let best8_at = best8_of (16 * width) source.luma mb (16 * column) (16 * row) in
    let chroma = best_chroma (8 * width) source.cb source.cr mb (8 * column) (8 * row) in
    record {
      mode16 = whole.mode;
      modes8 = cond t8x8 (line 4 (λ k. (best8_at k).mode)) (replicate 4 0);
      modes4 = line 16 (λ b. (best4_at b).mode);
      chroma_mode = chroma.mode;
      intra = whole.cost ∷ cond t8x8 (total 4 (λ k. (best8_at k).cost)) 0 ∷ total 16 (λ b. (best4_at b).cost) ∷ [];
      parts = replicate 9 blank_part;
    }

-- the plans of a row of macroblocks
unfoldable pub intra_plans : ℕ → ℕ → Bool → Planes → ℕ → List MbPlan
intra_plans width first_row t8x8 source row = map (intra_plan width first_row t8x8 source row) (range_with_len 0 width)
