-- The nine partitions of a macroblock.
use Rattle.std.specs.Prelude.{ℕ, ◌+◌, ◌*◌, ◌/◌, ◌%◌, ◌-◌, if◌then◌else◌, nat_eq, nat_lt}
use Rattle.spec_search.specs.declared.blocks.Block.{Block}

-- partition p of the macroblock whose first sample is at column x and row y: 0 is the whole macroblock, 1 and 2 are its upper
-- and lower half, 3 and 4 its left and right half, and 5 to 8 its quarters, row by row
abbrev pub partition_of : ℕ → ℕ → ℕ → Block
partition_of x y p = (if nat_eq p 0 then record { x = x; y = y; w = 16; h = 16 }
    else (if nat_lt p 3 then record { x = x; y = y + 8 * (p - 1); w = 16; h = 8 }
    else (if nat_lt p 5 then record { x = x + 8 * (p - 3); y = y; w = 8; h = 16 }
    else record { x = x + 8 * ((p - 5) % 2); y = y + 8 * ((p - 5) / 2); w = 8; h = 8 })))
