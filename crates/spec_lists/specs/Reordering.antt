-- Which reference an encoder moves to the front of a P picture's list: the one that is least different from the source.
use Rattle.std.specs.Prelude.{ℕ, ◌+◌, ◌-◌, ◌==◌, nat_lt, List, [], ◌∷◌, map, Option, Some, None, if◌then◌else◌}
use Rattle.std.specs.List.{slice_get}
use Rattle.spec_lists.specs.References.{Reference}
use Rattle.spec_lists.specs.Lists.{number_distance}

-- the sum of absolute differences of two lists of samples
unfoldable pub difference : List ℕ → List ℕ → ℕ
difference [] ys = 0
difference (x ∷ xs) [] = 0
difference (x ∷ xs) (y ∷ ys) = (x - y) + (y - x) + difference xs ys

-- the first place of the least of these numbers, where the least so far is `least` at place `best`
unfoldable pub least_from : ℕ → ℕ → ℕ → List ℕ → ℕ
least_from least best place [] = best
least_from least best place (z ∷ zs) = if nat_lt z least then least_from z place (place + 1) zs else least_from least best (place + 1) zs

abbrev pub first_least_place : List ℕ → ℕ
first_least_place [] = 0
first_least_place (z ∷ zs) = least_from z 0 1 zs

abbrev pub command_for : ℕ → Option Reference → Option ℕ
command_for frame_num None = None
command_for frame_num (Some r) = Some (number_distance frame_num r - 1)

-- abs_diff_pic_num_minus1 of that reference, where it isn't the first one
unfoldable pub moved_for : ℕ → List ℕ → List Reference → Option ℕ
moved_for frame_num source list =
    let place = first_least_place (map (λ r. difference source r.planes.luma) list) in if place == 0 then None else command_for frame_num (slice_get list place)
