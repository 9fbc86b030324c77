-- The 4x4 blocks of a macroblock: four in each of four rows, numbered within 8x8 blocks.
use Rattle.std.specs.Prelude.{ℕ, ◌+◌, ◌*◌, ◌/◌, ◌%◌}

-- the column and the row of a block (ITU-T H.264, clauses 6.4.3 and 6.4.5)
abbrev pub block_column : ℕ → ℕ
block_column b = 2 * (b / 4 % 2) + b % 2

abbrev pub block_row : ℕ → ℕ
block_row b = 2 * (b / 8) + b / 2 % 2

-- the number of the block in a column and a row (clauses 6.4.13.1 and 6.4.13.3)
abbrev pub block_number : ℕ → ℕ → ℕ
block_number column row = 8 * (row / 2) + 4 * (column / 2) + 2 * (row % 2) + column % 2
