-- A refinement has one result, which is the one that is found; and it stays near the vector that it begins with.
use Rattle.std.proofs.Common.{◌≡◌, ◌≤◌, ◌<◌, ◌+◌, ◌*◌, ◌/◌, ◌%◌, ◌+ℤ◌, ◌-ℤ◌, ◌*ℤ◌, ℕ, ℤ, pos, negsuc, sym, ap, ap₂, ◌∙◌, subst, arith}
use Rattle.std.specs.Prelude.{nat_abs}
use Rattle.std.proofs.lemmas.Int.{ints}
use Rattle.std.proofs.lemmas.Bool.Decides.{nat_tests}
use Rattle.enc_tables.specs.declared.records.Vector.{Vector}
use Rattle.spec_basics.specs.Bounds.{Within}
use Rattle.spec_partitions.specs.Small.{Small}
use Rattle.spec_search.specs.Scan.{InRange}
use Rattle.spec_search.specs.Refine.{square_place, turned, IsBestOfNine, in_quarters, IsRefined}
use Rattle.spec_inter_plans.specs.Found.{Refined, size_of, turned_vector, best_of_nine, refined}
use Rattle.spec_inter_plans.proofs.Firsts.{found_first, same_first}

pub round_found : (cost : Vector → ℕ) (centre : Vector) (step : ℕ) → IsBestOfNine cost centre step (best_of_nine cost centre step).vector
unfolding best_of_nine
round_found cost centre step =
    let f = found_first size_of (turned_vector cost centre step) 8 in
    record { turn = f.place; first_least = f.first; stands = ap (λ (r : Refined). r.vector) f.stands }

pub round_size : (cost : Vector → ℕ) (centre : Vector) (step : ℕ) → (best_of_nine cost centre step).size ≡ cost (best_of_nine cost centre step).vector
unfolding best_of_nine
round_size cost centre step =
    let f = found_first size_of (turned_vector cost centre step) 8 in
    ap (λ (r : Refined). r.size) f.stands ∙ sym (ap (λ (r : Refined). cost r.vector) f.stands)

pub round_only : (cost : Vector → ℕ) (centre : Vector) (step : ℕ) (v w : Vector) → IsBestOfNine cost centre step v → IsBestOfNine cost centre step w → v ≡ w
round_only cost centre step v w g h =
    g.stands ∙ ap (λ (k : ℕ). turned centre step k) (same_first (λ k. cost (turned centre step k)) 9 g.turn h.turn g.first_least h.first_least) ∙ sym h.stands

pub refined_found : (cost : Vector → ℕ) (dx dy : ℤ) → IsRefined cost dx dy (refined cost (in_quarters dx dy)).vector (refined cost (in_quarters dx dy)).size
unfolding refined
refined_found cost dx dy =
    let half : Vector = (best_of_nine cost (in_quarters dx dy) 2).vector in
    record { half = half; coarse = round_found cost (in_quarters dx dy) 2; fine = round_found cost half 1; is_cost = round_size cost half 1 }

make : Vector → ℕ → Refined
make v s = record { vector = v; size = s }

-- whatever is a refinement is what is found
pub refined_only : (cost : Vector → ℕ) (dx dy : ℤ) (best : Vector) (size : ℕ) → IsRefined cost dx dy best size → refined cost (in_quarters dx dy) ≡ record { vector = best; size = size }
unfolding make
refined_only cost dx dy best size h =
    let f = refined_found cost dx dy in
    let half : f.half ≡ h.half = round_only cost (in_quarters dx dy) 2 f.half h.half f.coarse h.coarse in
    let fine = subst (λ (c : Vector). IsBestOfNine cost c 1 (refined cost (in_quarters dx dy)).vector) half f.fine in
    let vector : (refined cost (in_quarters dx dy)).vector ≡ best = round_only cost h.half 1 _ best fine h.fine in
    ap₂ make vector (f.is_cost ∙ ap cost vector ∙ sym h.is_cost)

-- ---- sizes

within_abs : (m : ℕ) (z : ℤ) → nat_abs z ≤ m → Within m z
within_abs m (pos n) h = record { low = omega (arith, ints); high = omega (arith, ints) }
within_abs m (negsuc n) h = record { low = omega (arith, ints); high = omega (arith, ints) }

abs_within : (m : ℕ) (z : ℤ) → Within m z → nat_abs z ≤ m
abs_within m (pos n) w = omega (arith, ints, w.high)
abs_within m (negsuc n) w = omega (arith, ints, w.low)

quarter_small : (range : ℕ) (z : ℤ) → nat_abs z ≤ range → nat_abs (pos 4 *ℤ z) ≤ 4 * range
quarter_small range z h = let w = within_abs range z h in abs_within (4 * range) (pos 4 *ℤ z) (record { low = omega (arith, ints, w.low); high = omega (arith, ints, w.high) })

pub quarters_small : (range : ℕ) (dx dy : ℤ) → InRange range dx dy → Small (4 * range) (in_quarters dx dy)
quarters_small range dx dy h = record { across = quarter_small range dx h.across; down = quarter_small range dy h.down }

square_small : (k : ℕ) → k < 9 → square_place k < 9
square_small k lt = grind (arith, nat_tests)

moved_2 : (m : ℕ) (z : ℤ) (t : ℕ) → t ≤ 2 → nat_abs z ≤ m → nat_abs (z +ℤ pos (2 * t) -ℤ pos 2) ≤ m + 2
moved_2 m z t few h = let w = within_abs m z h in abs_within (m + 2) (z +ℤ pos (2 * t) -ℤ pos 2) (record { low = omega (arith, ints, w.low); high = omega (arith, ints, w.high) })

moved_1 : (m : ℕ) (z : ℤ) (t : ℕ) → t ≤ 2 → nat_abs z ≤ m → nat_abs (z +ℤ pos (1 * t) -ℤ pos 1) ≤ m + 1
moved_1 m z t few h = let w = within_abs m z h in abs_within (m + 1) (z +ℤ pos (1 * t) -ℤ pos 1) (record { low = omega (arith, ints, w.low); high = omega (arith, ints, w.high) })

third : (s : ℕ) → s < 9 → s / 3 ≤ 2
third s lt = omega arith

rest_3 : (s : ℕ) → s % 3 ≤ 2
rest_3 s = omega arith

turned_2 : (m : ℕ) (centre : Vector) (k : ℕ) → k < 9 → Small m centre → Small (m + 2) (turned centre 2 k)
turned_2 m centre k lt h = record { across = moved_2 m centre.x (square_place k % 3) (rest_3 (square_place k)) h.across; down = moved_2 m centre.y (square_place k / 3) (third (square_place k) (square_small k lt)) h.down }

turned_1 : (m : ℕ) (centre : Vector) (k : ℕ) → k < 9 → Small m centre → Small (m + 1) (turned centre 1 k)
turned_1 m centre k lt h = record { across = moved_1 m centre.x (square_place k % 3) (rest_3 (square_place k)) h.across; down = moved_1 m centre.y (square_place k / 3) (third (square_place k) (square_small k lt)) h.down }

pub refined_small : (cost : Vector → ℕ) (m : ℕ) (start : Vector) → Small m start → Small (m + 3) (refined cost start).vector
unfolding refined
refined_small cost m start h =
    let coarse = round_found cost start 2 in
    let half : Vector = (best_of_nine cost start 2).vector in
    let near : Small (m + 2) half = subst (λ (v : Vector). Small (m + 2) v) (sym coarse.stands) (turned_2 m start coarse.turn coarse.first_least.inside h) in
    let fine = round_found cost half 1 in
    let last : Small (m + 2 + 1) (best_of_nine cost half 1).vector = subst (λ (v : Vector). Small (m + 2 + 1) v) (sym fine.stands) (turned_1 (m + 2) half fine.turn fine.first_least.inside near) in
    let same : m + 2 + 1 ≡ m + 3 = omega arith in
    subst (λ (n : ℕ). Small n (best_of_nine cost half 1).vector) same last
