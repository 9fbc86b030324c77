-- A window has one best vector, which is the one that is found.
use Rattle.std.proofs.Common.{◌≡◌, ◌<◌, ◌+◌, ◌-◌, ◌*◌, ℕ, ℤ, refl, sym, ap, ap₂, ◌∙◌, subst, arith, inl, inr, mul-pos}
use Rattle.std.proofs.lemmas.Bool.{cases_lt}
use Rattle.spec_search.specs.Scan.{Before, spot_at, dx_of, dy_of, window_size}
use Rattle.spec_search.specs.Least.{IsFirstLeast}
use Rattle.spec_search.specs.Window.{IsWindowBest, scanned}
use Rattle.spec_search.specs.Refine.{in_quarters}
use Rattle.spec_search.proofs.Ranks.{place_of, at_place, before_place}
use Rattle.spec_search.proofs.WindowLaws.{window_best as best_of_scan}
use Rattle.spec_inter_plans.specs.Found.{Refined, size_of, scanned_vector, window_best, IsBestVector}
use Rattle.spec_inter_plans.proofs.Firsts.{found_first}

pub window_found : (cost : ℤ → ℤ → ℕ) (range : ℕ) → IsBestVector cost range (window_best cost range)
unfolding window_best
window_found cost range =
    let odd : 0 < 2 * range + 1 = omega arith in
    let some : 0 < window_size range = mul-pos odd odd in
    let f = found_first size_of (scanned_vector cost) (window_size range - 1) in
    let all : 1 + (window_size range - 1) ≡ window_size range = omega arith in
    let h : IsFirstLeast (scanned cost) (window_size range) f.place = subst (λ (n : ℕ). IsFirstLeast (scanned cost) n f.place) all f.first in
    record {
      dx = dx_of (spot_at f.place);
      dy = dy_of (spot_at f.place);
      best = best_of_scan cost range f.place (scanned cost f.place) h refl;
      stands = ap (λ (r : Refined). r.vector) f.stands;
    }

-- ---- there is no other

before_of : (dx dy u v : ℤ) → place_of dx dy < place_of u v → Before dx dy u v
before_of dx dy u v lt =
    let d = at_place dx dy in
    let e = at_place u v in
    let m = place_of dx dy in
    let n = place_of u v in
    let a = before_place m n lt in
    let b = subst (λ (z : ℤ). Before z (dy_of (spot_at m)) (dx_of (spot_at n)) (dy_of (spot_at n))) d.0 a in
    let c = subst (λ (z : ℤ). Before dx z (dx_of (spot_at n)) (dy_of (spot_at n))) d.1 b in
    let f = subst (λ (z : ℤ). Before dx dy z (dy_of (spot_at n))) e.0 c in
    subst (λ (z : ℤ). Before dx dy u z) e.1 f

not_before : (cost : ℤ → ℤ → ℕ) (range : ℕ) (dx dy u v : ℤ) (s t : ℕ) → IsWindowBest cost range dx dy s → IsWindowBest cost range u v t → Before dx dy u v → ⊥
not_before cost range dx dy u v s t g h b = let less = h.is_first dx dy g.inside b in let least = g.is_least u v h.inside in omega arith

pub same_best : (cost : ℤ → ℤ → ℕ) (range : ℕ) (dx dy u v : ℤ) (s t : ℕ) → IsWindowBest cost range dx dy s → IsWindowBest cost range u v t → (dx ≡ u) × (dy ≡ v)
same_best cost range dx dy u v s t g h = elim (cases_lt (place_of dx dy) (place_of u v)) [
  | inl lt ↦ absurd (not_before cost range dx dy u v s t g h (before_of dx dy u v lt))
  | inr ge ↦ elim (cases_lt (place_of u v) (place_of dx dy)) [
    | inl lt ↦ absurd (not_before cost range u v dx dy t s h g (before_of u v dx dy lt))
    | inr le ↦ (let same : place_of dx dy ≡ place_of u v = omega arith in
        let d = at_place dx dy in
        let e = at_place u v in
        (sym d.0 ∙ ap (λ (n : ℕ). dx_of (spot_at n)) same ∙ e.0, sym d.1 ∙ ap (λ (n : ℕ). dy_of (spot_at n)) same ∙ e.1))
  ]
]

-- whatever is the window's best is what is found
pub window_only : (cost : ℤ → ℤ → ℕ) (range : ℕ) (dx dy : ℤ) (size : ℕ) → IsWindowBest cost range dx dy size → window_best cost range ≡ in_quarters dx dy
window_only cost range dx dy size h =
    let f = window_found cost range in
    let e = same_best cost range f.dx f.dy dx dy (cost f.dx f.dy) size f.best h in
    f.stands ∙ ap₂ (λ (x y : ℤ). in_quarters x y) e.0 e.1
