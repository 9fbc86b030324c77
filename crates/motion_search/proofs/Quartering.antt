-- Rounds of nine vectors, and what they cost.
use Rattle.std.proofs.Common.{◌≡◌, Option, Some, None, Bor, refl, ℕ, ◌+◌, ◌*◌, ◌/◌, ◌%◌, ◌<◌, ◌≤◌, List, get_or, sym, ap, ◌∙◌, subst, arith, add-one}
use Rattle.std.proofs.lemmas.Int.{ints}
use Rattle.std.proofs.lemmas.Bool.Decides.{nat_tests}
use Rattle.std.specs.Prelude.{ℤ, pos, negsuc, nat_abs, ◌-ℤ◌, ◌≤ℤ◌}
use Rattle.std.specs.Int.{abs_diff}
use Rattle.enc_tables.specs.declared.records.Vector.{Vector}
use Rattle.spec_kernels.specs.Sums.{block_sum, block_difference, strided}
use Rattle.spec_kernels.proofs.SumLaws.{block-same}
use Rattle.spec_search.specs.declared.blocks.Block.{Block}
use Rattle.spec_search.specs.Window.{own}
use Rattle.spec_search.specs.Refine.{square_place, turned, in_quarters, IsBestOfNine, IsRefined}
use Rattle.spec_search.specs.Scan.{InRange}
use Rattle.spec_search.proofs.Places.{keep, move, first_alone}
use Rattle.picture_planes.specs.declared.plane.Plane.{Plane}
use Rattle.picture_planes.specs.Samples.{at}
use Rattle.picture_planes.specs.Margins.{IsBlock, buffer_width}
use Rattle.spec_inter.specs.Blocks.{RowsOf}
use Rattle.subpel_filter.specs.declared.halves.HalfPlanes.{HalfPlanes}
use Rattle.subpel_filter.specs.Predicted.{luma_at}
use Rattle.subpel_filter.specs.Halves.{luma_kept}
use Rattle.motion_search.specs.Planes.{IsBlockOf}
use Rattle.motion_search.specs.Quarters.{quarter_costs, kept_costs, costs_by, samples_by, IsWithin}
use Rattle.motion_search.specs.Rounds.{Round}
use Rattle.motion_search.proofs.Costs.{at_buffer}

pub block_cost_is : (s : Plane) (b : Block) (g : ℕ → ℕ → ℕ) (w : ℕ) (xs out : List ℕ) → IsBlockOf s b → b.w ≡ w → IsBlock s (b.x + s.pad) (b.y + s.pad) xs → RowsOf g b.w b.h out
    → block_difference (strided xs (buffer_width s)) (strided out w) w b.h ≡ block_difference (own (at s) b) g b.w b.h
block_cost_is s b g w xs out h e f r =
    let ax = h.across in
    let ay = h.down in
    block-same
    (λ i j. abs_diff (strided xs (buffer_width s) i j) (strided out w i j))
    (λ i j. abs_diff (at s (b.x + i) (b.y + j)) (g i j)) w b.h
    (λ i j p q.
    (let left = f i j (omega arith) (omega arith) ∙ at_buffer s (b.x + i) (b.y + j) (b.x + s.pad + i) (b.y + s.pad + j) (omega arith) (omega arith) (omega arith) in
    let right = ap (λ (m : ℕ). get_or out (j * m + i) 0) (sym e) ∙ r.at i j (omega arith) q in
    ap (λ (k : ℕ). abs_diff k (strided out w i j)) left ∙ ap (abs_diff (at s (b.x + i) (b.y + j))) right))
    ∙ ap (λ (k : ℕ). block_sum (λ i j. abs_diff (at s (b.x + i) (b.y + j)) (g i j)) k b.h) (sym e)

-- the cost by samples, whichever way they are made
pub cost_by_is : (s r : Plane) (halves : Option (Bor HalfPlanes)) (b : Block) (v : Vector) → block_difference (own (at s) b) (samples_by r halves b v) b.w b.h ≡ costs_by s r halves b v
unfolding quarter_costs kept_costs
cost_by_is s r None b v = refl
cost_by_is s r (Some halves) b v = refl

-- where the half samples are the reference's, both ways cost the same
pub kept_same : (s r : Plane) (halves : HalfPlanes) (b : Block) (v : Vector) → ((i j : ℕ) → i < b.w → j < b.h → luma_kept r halves b.x b.y v i j ≡ luma_at r b.x b.y v i j)
    → kept_costs s r halves b v ≡ quarter_costs s r b v
unfolding quarter_costs kept_costs
kept_same s r halves b v same = block-same _ _ b.w b.h (λ i j p q. ap (abs_diff (at s (b.x + i) (b.y + j))) (same i j p q))

square_small : (k : ℕ) → k < 9 → square_place k < 9
square_small k p = grind (arith, nat_tests)

steps_most : (step a : ℕ) → a ≤ 2 → step * a ≤ step * 2
steps_most step a p = grind arith

pub turned_within : (m n step k : ℕ) (c : Vector) → k < 9 → m + step ≤ n → IsWithin m c → IsWithin n (turned c step k)
turned_within m n step k c p s h =
    let q = square_small k p in
    let u = steps_most step (square_place k % 3) (omega arith) in
    let v = steps_most step (square_place k / 3) (omega arith) in
    let a = h.left in
    let b = h.right in
    let d = h.up in
    let e = h.down in
    record { left = omega (arith, ints); right = omega (arith, ints); up = omega (arith, ints); down = omega (arith, ints) }

pub round_begun : (cost : Vector → ℕ) (c : Vector) (step : ℕ) (best : Vector) (least : ℕ) → best ≡ turned c step 0 → least ≡ cost best → Round cost c step 1 best least
round_begun cost c step best least e f = record { turn = 0; first_least = first_alone (λ k. cost (turned c step k)); stands = e; is_cost = f }

pub round_moved : (cost : Vector → ℕ) (c : Vector) (step n : ℕ) (best : Vector) (least : ℕ) (v : Vector) (sad : ℕ) → Round cost c step n best least → v ≡ turned c step n → sad ≡ cost v → sad < least → Round cost c step (n + 1) v sad
round_moved cost c step n best least v sad h e f lt =
    let x = ap cost e in
    let y = ap cost h.stands in
    let z = h.is_cost in
    record { turn = n; first_least = rw add-one (move (λ k. cost (turned c step k)) n h.turn h.first_least (omega arith)); stands = e; is_cost = f }

pub round_kept : (cost : Vector → ℕ) (c : Vector) (step n : ℕ) (best : Vector) (least : ℕ) (v : Vector) (sad : ℕ) → Round cost c step n best least → v ≡ turned c step n → sad ≡ cost v → least ≤ sad → Round cost c step (n + 1) best least
round_kept cost c step n best least v sad h e f le =
    let x = ap cost e in
    let y = ap cost h.stands in
    let z = h.is_cost in
    record { turn = h.turn; first_least = rw add-one (keep (λ k. cost (turned c step k)) n h.turn h.first_least (omega arith)); stands = h.stands; is_cost = h.is_cost }

pub abs_bounds : (z : ℤ) (n : ℕ) → nat_abs z ≤ n → ((pos 0 -ℤ pos n) ≤ℤ z) × (z ≤ℤ pos n)
abs_bounds (pos k) n p = (omega (arith, ints), omega (arith, ints))
abs_bounds (negsuc k) n p = (omega (arith, ints), omega (arith, ints))

pub centre_same : (cost : Vector → ℕ) (x u y v : ℤ) (step : ℕ) (best : Vector) → x ≡ u → y ≡ v → (let c : Vector = record { x = x; y = y } in IsBestOfNine cost c step best) → (let c : Vector = record { x = u; y = v } in IsBestOfNine cost c step best)
centre_same cost x u y v step best e f h =
    subst (λ (a : ℤ). (let c : Vector = record { x = u; y = a } in IsBestOfNine cost c step best)) f
    (subst (λ (a : ℤ). (let c : Vector = record { x = a; y = y } in IsBestOfNine cost c step best)) e h)

-- what is refined by costs is refined by others that are the same for all vectors that are tried
module _ (f g : Vector → ℕ) (same : (v : Vector) → IsWithin 131 v → f v ≡ g v) where
  nine_same : (m step : ℕ) (c best : Vector) → IsWithin m c → m + step ≤ 131 → IsBestOfNine f c step best → IsBestOfNine g c step best
  nine_same m step c best h room b =
      let e = λ (k : ℕ) (p : k < 9). same (turned c step k) (turned_within m 131 step k c p room h) in
      let inside = b.first_least.inside in
      record {
        turn = b.turn;
        first_least = record {
          inside = inside;
          is_least = λ other p. (let x = e b.turn inside in let y = e other p in let z = b.first_least.is_least other p in omega arith);
          is_first = λ other p. (let x = e b.turn inside in let y = e other (omega arith) in let z = b.first_least.is_first other p in omega arith);
        };
        stands = b.stands;
      }

  pub refined_same : (dx dy : ℤ) (best : Vector) (size : ℕ) → InRange 32 dx dy → IsRefined f dx dy best size → IsRefined g dx dy best size
  refined_same dx dy best size near r =
      let a = abs_bounds dx 32 near.across in
      let b = abs_bounds dy 32 near.down in
      let centre : IsWithin 128 (in_quarters dx dy) = record { left = omega (arith, ints); right = omega (arith, ints); up = omega (arith, ints); down = omega (arith, ints) } in
      let half : IsWithin 130 r.half = subst (λ (v : Vector). IsWithin 130 v) (sym r.coarse.stands) (turned_within 128 130 2 r.coarse.turn (in_quarters dx dy) r.coarse.first_least.inside (omega arith) centre) in
      let last : IsWithin 131 best = subst (λ (v : Vector). IsWithin 131 v) (sym r.fine.stands) (turned_within 130 131 1 r.fine.turn r.half r.fine.first_least.inside (omega arith) half) in
      record {
        half = r.half;
        coarse = nine_same 128 2 (in_quarters dx dy) r.half centre (omega arith) r.coarse;
        fine = nine_same 130 1 r.half best half (omega arith) r.fine;
        is_cost = r.is_cost ∙ same best last;
      }
