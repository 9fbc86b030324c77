-- The vectors of a run are those of the scan, one after another.
use Rattle.std.proofs.Common.{◌≡◌, ℕ, zero, suc, ◌+◌, ◌-◌, ◌*◌, ◌/◌, ◌%◌, ◌<◌, ◌≤◌, ◌⊎◌, List, refl, sym, ap, ◌∙◌, arith, inl, inr, false, true}
use Rattle.std.proofs.lemmas.Bool.{cases_lt}
use Rattle.std.proofs.lemmas.Bool.Decides.{nat_tests}
use Rattle.std.specs.Prelude.{slice_index}
use Rattle.spec_search.specs.declared.blocks.Spot.{Spot}
use Rattle.spec_search.specs.Scan.{spot_at, next, dx_of, dy_of, window_size}
use Rattle.spec_inter_plans.specs.InterPlans.{at as block_at}
use Rattle.picture_planes.specs.declared.plane.Plane.{Plane}
use Rattle.block_sums.specs.declared.table.SumTable.{SumTable}
use Rattle.block_sums.specs.Tables.{IsTableOf, sum_at}
use Rattle.motion_search.specs.Planes.{bounds, IsBlockIn, OwnSums}
use Rattle.motion_search.proofs.Going.{near_of, standing}
use Rattle.nine_search.specs.Partitions.{sub_macroblock}
use Rattle.nine_search.specs.NinePlanes.{sub_bounds}
use Rattle.nine_search.proofs.Fours.{bound_is}
use Rattle.nine_search.specs.declared.runs.Run.{Run}
use Rattle.nine_search.specs.Runs.{along, beside, spot_of, lane_of, apart_of, HoldsSums, IsRun, Follows}

next_along : (k a b : ℕ) (s : Spot) → s.ring ≡ k → s.column ≡ a → s.row ≡ b → a < 2 * k → (b ≡ 0) ⊎ (2 * k ≤ b) → ((next s).ring ≡ k) × ((next s).column ≡ a + 1) × ((next s).row ≡ b)
next_along k a b s e f g p r = (grind (arith, nat_tests), grind (arith, nat_tests), grind (arith, nat_tests))

-- from the left side to the right
next_across : (k b : ℕ) (s : Spot) → s.ring ≡ k → s.column ≡ 0 → s.row ≡ b → 0 < b → b < 2 * k → ((next s).ring ≡ k) × ((next s).column ≡ 2 * k) × ((next s).row ≡ b)
next_across k b s e f g p r = (grind (arith, nat_tests), grind (arith, nat_tests), grind (arith, nat_tests))

-- and from the right to the left one row below
next_back : (k b : ℕ) (s : Spot) → s.ring ≡ k → s.column ≡ 2 * k → s.row ≡ b → 0 < b → b < 2 * k → ((next s).ring ≡ k) × ((next s).column ≡ 0) × ((next s).row ≡ b + 1)
next_back k b s e f g p r = (grind (arith, nat_tests), grind (arith, nat_tests), grind (arith, nat_tests))

spot_same : (s t : Spot) → s.ring ≡ t.ring → s.column ≡ t.column → s.row ≡ t.row → s ≡ t
spot_same s t e f g =
    let a : s ≡ (let u : Spot = record { ring = t.ring; column = s.column; row = s.row } in u) = ap (λ (k : ℕ). (let u : Spot = record { ring = k; column = s.column; row = s.row } in u)) e in
    a ∙ ap (λ (k : ℕ). (let u : Spot = record { ring = t.ring; column = k; row = s.row } in u)) f ∙ ap (λ (k : ℕ). (let u : Spot = record { ring = t.ring; column = t.column; row = k } in u)) g

along_row : (n m : ℕ) (s : Spot) → s ≡ spot_at n → (s.row ≡ 0) ⊎ (2 * s.ring ≤ s.row) → s.column + m ≤ 2 * s.ring → along s m ≡ spot_at (n + m)
unfolding spot_at
along_row n zero s e r p =
    let z : n ≡ n + 0 = omega arith in
    spot_same (along s 0) s refl (omega arith) refl ∙ e ∙ ap spot_at z
along_row n (suc m) s e r p =
    let h = along_row n m s e r (omega arith) in
    let z : suc (n + m) ≡ n + suc m = omega arith in
    let t = next_along s.ring (s.column + m) s.row (along s m) refl refl refl (omega arith) r in
    spot_same (along s (suc m)) (next (along s m)) (sym t.0) (let c = t.1 in omega arith) (sym t.2) ∙ ap next h ∙ ap spot_at z

one_along : (n : ℕ) (s : Spot) → s ≡ spot_at n → along s 0 ≡ spot_at (n + 0)
one_along n s e = let z : n ≡ n + 0 = omega arith in spot_same (along s 0) s refl (omega arith) refl ∙ e ∙ ap spot_at z

beside_next : (s : Spot) (m : ℕ) → 0 < s.row → m + 1 < 2 * (2 * s.ring - s.row) → beside s (suc m) ≡ next (beside s m)
beside_next s m p q = elim (cases_lt (m % 2) 1) [
  | inl lt ↦ (let z : m % 2 ≡ 0 = omega arith in
      let c : (beside s m).column ≡ 0 = (rw z (omega arith)) in
      let o : suc m % 2 ≡ 1 = omega arith in
      let d : (beside s (suc m)).column ≡ 2 * s.ring = (rw o (omega arith)) in
      let t = next_across s.ring (s.row + m / 2) (beside s m) refl c refl (omega arith) (omega arith) in
      spot_same (beside s (suc m)) (next (beside s m)) (sym t.0) (d ∙ sym t.1) (let r = t.2 in omega arith))
  | inr ge ↦ (let z : m % 2 ≡ 1 = omega arith in
      let c : (beside s m).column ≡ 2 * s.ring = (rw z (omega arith)) in
      let o : suc m % 2 ≡ 0 = omega arith in
      let d : (beside s (suc m)).column ≡ 0 = (rw o (omega arith)) in
      let t = next_back s.ring (s.row + m / 2) (beside s m) refl c refl (omega arith) (omega arith) in
      spot_same (beside s (suc m)) (next (beside s m)) (sym t.0) (d ∙ sym t.1) (let r = t.2 in omega arith))
]

beside_sides : (n m : ℕ) (s : Spot) → s ≡ spot_at n → s.column ≡ 0 → 0 < s.row → m < 2 * (2 * s.ring - s.row) → beside s m ≡ spot_at (n + m)
unfolding spot_at
beside_sides n zero s e c r p =
    let z : n ≡ n + 0 = omega arith in
    let d : 2 * s.ring * (0 % 2) ≡ s.column = omega arith in
    let b : s.row + 0 / 2 ≡ s.row = omega arith in
    spot_same (beside s 0) s refl d b ∙ e ∙ ap spot_at z
beside_sides n (suc m) s e c r p =
    let h = beside_sides n m s e c r (omega arith) in
    let z : suc (n + m) ≡ n + suc m = omega arith in
    beside_next s m r (omega arith) ∙ ap next h ∙ ap spot_at z

-- ---- runs

pub edge : (b k : ℕ) → (0 < b → 2 * k ≤ b) → (b ≡ 0) ⊎ (2 * k ≤ b)
edge b k h = elim (cases_lt 0 b) [
  | inl lt ↦ inr (h lt)
  | inr ge ↦ inl (omega arith)
]

pub row_follows : (place : ℕ) (run : Run) (s : Spot) → run.spot ≡ s → run.is_sided ≡ false → s ≡ spot_at place → (s.row ≡ 0) ⊎ (2 * s.ring ≤ s.row) → s.column + run.count ≤ 2 * s.ring + 1 → Follows place run
unfolding spot_of
row_follows place run s es ef e r p = record { spot = λ i lt. rw (ef, es) (along_row place i s e r (omega arith)) }

pub one_follows : (place : ℕ) (run : Run) (s : Spot) → run.spot ≡ s → run.is_sided ≡ false → s ≡ spot_at place → run.count ≡ 1 → Follows place run
unfolding spot_of
one_follows place run s es ef e n = record { spot = λ i lt. (let z : i ≡ 0 = omega arith in rw (ef, es, z) (one_along place s e)) }

pub sides_follow : (place : ℕ) (run : Run) (s : Spot) → run.spot ≡ s → run.is_sided ≡ true → s ≡ spot_at place → s.column ≡ 0 → 0 < s.row → run.count ≤ 2 * (2 * s.ring - s.row) → Follows place run
unfolding spot_of
sides_follow place run s es et e c r p = record { spot = λ i lt. rw (et, es) (beside_sides place i s e c r (omega arith)) }

-- ---- sums

pub sum_moved : (t : SumTable) (c d r z : ℕ) → c ≡ d → r ≡ z → sum_at t c r ≡ sum_at t d z
sum_moved t c d r z e f = ap (λ (k : ℕ). sum_at t k r) e ∙ ap (sum_at t d) f

-- the four rows of lanes hold the sums of the four sub-macroblocks
pub four_sums : (t : SumTable) (x y : ℕ) (run : Run) (c r : ℕ → ℕ)
    → ((i : ℕ) → i < run.count → c i ≡ x + t.pad + (spot_of run i).column - (spot_of run i).ring) → ((i : ℕ) → i < run.count → r i ≡ y + t.pad + (spot_of run i).row - (spot_of run i).ring)
    → ((i : ℕ) → i < run.count → slice_index run.first i ≡ sum_at t (c i) (r i)) → ((i : ℕ) → i < run.count → slice_index run.right i ≡ sum_at t (c i + 8) (r i))
    → ((i : ℕ) → i < run.count → slice_index run.below i ≡ sum_at t (c i) (r i + 8)) → ((i : ℕ) → i < run.count → slice_index run.last i ≡ sum_at t (c i + 8) (r i + 8))
    → HoldsSums t x y run
unfolding lane_of
four_sums t x y run c r e f s0 s1 s2 s3 = record { at = at }
  where
    at : (q i : ℕ) → q < 4 → i < run.count → lane_of run q i ≡ sum_at t (x + t.pad + (spot_of run i).column - (spot_of run i).ring + 8 * (q % 2)) (y + t.pad + (spot_of run i).row - (spot_of run i).ring + 8 * (q / 2))
    at zero i p lt = let a = e i lt in let b = f i lt in s0 i lt ∙ sum_moved t _ _ _ _ (omega arith) (omega arith)
    at (suc zero) i p lt = let a = e i lt in let b = f i lt in s1 i lt ∙ sum_moved t _ _ _ _ (omega arith) (omega arith)
    at (suc (suc zero)) i p lt = let a = e i lt in let b = f i lt in s2 i lt ∙ sum_moved t _ _ _ _ (omega arith) (omega arith)
    at (suc (suc (suc zero))) i p lt = let a = e i lt in let b = f i lt in s3 i lt ∙ sum_moved t _ _ _ _ (omega arith) (omega arith)
    at (suc (suc (suc (suc q)))) i p lt = absurd (omega arith)

-- a run that holds its sums and follows the scan has the bounds of its places
pub run_is : (t : SumTable) (s r : Plane) (x y range place : ℕ) (run : Run) (own : List ℕ) → OwnSums s (block_at x y 16 16) own → IsTableOf t r → t.pad ≡ 40 → IsBlockIn t.width t.height (block_at x y 16 16)
    → range ≤ 32 → place + run.count ≤ window_size range → HoldsSums t x y run → Follows place run → IsRun own (sub_bounds s r x y) place run
run_is t s r x y range place run own o h m ib le most sums follows = record { bound = bound; follows = follows }
  where
    one : (q k l u v i : ℕ) → k < 2 → l < 2 → i < run.count → u ≡ x + 8 * k → v ≡ y + 8 * l → q % 2 ≡ k → q / 2 ≡ l → 2 * l + k ≡ q → q < 4 → apart_of own run q i ≡ bounds s r (block_at u v 8 8) (dx_of (spot_of run i)) (dy_of (spot_of run i))
    one q k l u v i p g lt ue ve ke le2 qe q4 =
        bound_is t s r x y k l u v _ _ (slice_index own q) (lane_of run q i) (apart_of own run q i) (spot_of run i) own o h m ib (near_of (place + i) range (spot_of run i) le (omega arith) (follows.spot i lt)) p g ue ve
        (ap (λ (n : ℕ). x + t.pad + (spot_of run i).column - (spot_of run i).ring + 8 * n) ke) (ap (λ (n : ℕ). y + t.pad + (spot_of run i).row - (spot_of run i).ring + 8 * n) le2)
        (ap (slice_index own) (sym qe)) (sums.at q i q4 lt) refl

    bound : (q i : ℕ) → q < 4 → i < run.count → apart_of own run q i ≡ sub_bounds s r x y q (place + i)
    bound zero i p lt = one 0 0 0 x y i (omega arith) (omega arith) lt (omega arith) (omega arith) refl refl refl p ∙ standing (bounds s r (sub_macroblock x y 0)) (spot_of run i) (place + i) (follows.spot i lt)
    bound (suc zero) i p lt = one 1 1 0 (x + 8) y i (omega arith) (omega arith) lt (omega arith) (omega arith) refl refl refl p ∙ standing (bounds s r (sub_macroblock x y 1)) (spot_of run i) (place + i) (follows.spot i lt)
    bound (suc (suc zero)) i p lt = one 2 0 1 x (y + 8) i (omega arith) (omega arith) lt (omega arith) (omega arith) refl refl refl p ∙ standing (bounds s r (sub_macroblock x y 2)) (spot_of run i) (place + i) (follows.spot i lt)
    bound (suc (suc (suc zero))) i p lt = one 3 1 1 (x + 8) (y + 8) i (omega arith) (omega arith) lt (omega arith) (omega arith) refl refl refl p ∙ standing (bounds s r (sub_macroblock x y 3)) (spot_of run i) (place + i) (follows.spot i lt)
    bound (suc (suc (suc (suc q)))) i p lt = absurd (omega arith)
