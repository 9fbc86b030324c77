-- How long a receiver keeps a picture, in clock ticks, two of which are a picture (ITU-T H.264, clauses C.2.2 and D.2.3).
use Rattle.std.specs.Prelude.{ℕ, Bool, ◌+◌, ◌-◌, ◌*◌, if◌then◌else◌}

-- cpb_removal_delay: from the removal of the unit with which the last buffering period began, by how many units come before each
abbrev pub removal_ticks : ℕ → ℕ → ℕ
removal_ticks units first = 2 * (units - first)

-- dpb_output_delay: from the removal of a picture's unit to its output. Its place in display order, one picture later where pictures are
-- coded out of that order, less its place in coded order
abbrev pub output_ticks : Bool → ℕ → ℕ → ℕ
output_ticks reorders display coded = 2 * (display + (if reorders then 1 else 0) - coded)
