-- The macroblocks and blocks at the left and above (ITU-T H.264, clauses 6.4.11 and 6.4.12). None is a macroblock that isn't available.
use Rattle.std.specs.Prelude.{ℕ, ◌+◌, ◌*◌, ◌/◌, ◌%◌, ◌==◌, Option, Some, None, if◌then◌else◌}
use Rattle.std.specs.Borrow.{Bor}
use Rattle.spec_basics.specs.Blocks.{block_column, block_row, block_number}
use Rattle.enc_tables.specs.declared.records.MbRecord.{MbRecord}

-- the macroblock behind a reference
abbrev pub pointed : Option (Bor MbRecord) → Option MbRecord
pointed (Some mb) = Some mb.now
pointed None = None

-- ---- 8x8 luma blocks, and 4x4 chroma blocks, of which a macroblock has two in each of two rows: at the left of the left
-- column lies the right column of the left macroblock, and above the upper row the lower row of the macroblock above

abbrev pub left_holder2 : MbRecord → Option MbRecord → ℕ → Option MbRecord
left_holder2 mb left k = if k % 2 == 0 then left else Some mb

abbrev pub above_holder2 : MbRecord → Option MbRecord → ℕ → Option MbRecord
above_holder2 mb above k = if k / 2 == 0 then above else Some mb

-- the number of that block in the macroblock that holds it
abbrev pub left_block2 : ℕ → ℕ
left_block2 k = 2 * (k / 2) + (k % 2 + 1) % 2

abbrev pub above_block2 : ℕ → ℕ
above_block2 k = 2 * ((k / 2 + 1) % 2) + k % 2

-- ---- 4x4 luma blocks: four in each of four rows, numbered within 8x8 blocks (clause 6.4.3)

abbrev pub left_holder4 : MbRecord → Option MbRecord → ℕ → Option MbRecord
left_holder4 mb left b = if block_column b == 0 then left else Some mb

abbrev pub above_holder4 : MbRecord → Option MbRecord → ℕ → Option MbRecord
above_holder4 mb above b = if block_row b == 0 then above else Some mb

unfoldable pub left_block4 : ℕ → ℕ
left_block4 b = block_number ((block_column b + 3) % 4) (block_row b)

unfoldable pub above_block4 : ℕ → ℕ
above_block4 b = block_number (block_column b) ((block_row b + 3) % 4)
