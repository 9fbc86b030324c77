-- The neighbours of an 8x8 block are smoothed before they are used (clause 8.3.2.2.1).
use Rattle.std.specs.Prelude.{ℕ, Bool, List, ◌+◌, ◌-◌, ◌*◌, ◌/◌, ◌==◌, ◌&&◌, ◌||◌, not, cond, slice_index}
use Rattle.spec_intra.specs.declared.Avail.{Avail}
use Rattle.spec_intra.specs.Block.{line}

-- place j of the line of 25 neighbours (left 0 to 7, corner 8, above 9 to 24) has a neighbour before it, and one after it
abbrev pub has_before : Avail → ℕ → Bool
has_before avail j = not (j == 0) && (not (j == 9) || avail.corner) && (not (j == 8) || avail.left)

abbrev pub has_after : Avail → ℕ → Bool
has_after avail j = not (j == 24) && (not (j == 7) || avail.corner) && (not (j == 8) || avail.above)

-- weights 1, 2, 1; the sample itself stands for a neighbour that there isn't
abbrev pub smoothed_at : Avail → List ℕ → ℕ → ℕ
smoothed_at avail e j =
    (slice_index e (cond (has_before avail j) (j - 1) j) + 2 * slice_index e j + slice_index e (cond (has_after avail j) (j + 1) j) + 2) / 4

unfoldable pub smoothed : Avail → List ℕ → List ℕ
smoothed avail e = line 25 (smoothed_at avail e)
