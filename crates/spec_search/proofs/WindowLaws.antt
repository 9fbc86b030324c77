-- The first least place of a window's scan is the window's best vector.
use Rattle.std.proofs.Common.{◌≡◌, ◌≤◌, ◌<◌, ◌*◌, ◌/◌, ℕ, arith, inl, inr, ◌⊎◌, sym, ap, ◌∙◌, subst, refl}
use Rattle.std.specs.Prelude.{ℤ}
use Rattle.std.proofs.lemmas.Int.{ints}
use Rattle.std.proofs.lemmas.Bool.{cases_lt}
use Rattle.spec_kernels.specs.Sums.{block_difference}
use Rattle.spec_kernels.proofs.SumLaws.{bound_adds}
use Rattle.spec_search.specs.declared.blocks.Block.{Block}
use Rattle.spec_search.specs.Scan.{Before, dx_of, dy_of, spot_at, window_size}
use Rattle.spec_search.specs.Least.{IsFirstLeast}
use Rattle.spec_search.specs.Window.{scanned, IsWindowBest, cost_of, bound_of, own, moved}
use Rattle.spec_search.proofs.Ranks.{place_of, at_place, place_inside, before_place, scan_order}

never_both : (a b c d : ℤ) → Before a b c d → Before c d a b → ⊥
never_both a b c d (inl p) (inl q) = omega arith
never_both a b c d (inl p) (inr (inl q)) = (let e = q.0 in omega arith)
never_both a b c d (inl p) (inr (inr q)) = (let e = q.0 in omega arith)
never_both a b c d (inr (inl p)) (inl q) = (let e = p.0 in omega arith)
never_both a b c d (inr (inl p)) (inr (inl q)) = (let e = p.1 in let f = q.1 in omega (arith, ints))
never_both a b c d (inr (inl p)) (inr (inr q)) = (let e = p.1 in let f = q.1 in omega (arith, ints))
never_both a b c d (inr (inr p)) (inl q) = (let e = p.0 in omega arith)
never_both a b c d (inr (inr p)) (inr (inl q)) = (let e = p.1 in let f = q.1 in omega (arith, ints))
never_both a b c d (inr (inr p)) (inr (inr q)) = (let e = p.2 in let f = q.2 in omega (arith, ints))

at_vector : (cost : ℤ → ℤ → ℕ) (u v : ℤ) → scanned cost (place_of u v) ≡ cost u v
at_vector cost u v =
    let e = at_place u v in
    ap (λ (a : ℤ). cost a (dy_of (spot_at (place_of u v)))) e.0 ∙ ap (cost u) e.1

place_before : (u v : ℤ) (k : ℕ) → Before u v (dx_of (spot_at k)) (dy_of (spot_at k)) → place_of u v < k
place_before u v k b = elim (cases_lt (place_of u v) k) [
  | inl lt ↦ lt
  | inr ge ↦ elim (cases_lt k (place_of u v)) [
    | inl lt ↦ (let e = at_place u v in
        let c = before_place k (place_of u v) lt in
        let d = subst (λ (a : ℤ). Before (dx_of (spot_at k)) (dy_of (spot_at k)) a (dy_of (spot_at (place_of u v)))) e.0 c in
        let f = subst (λ (a : ℤ). Before (dx_of (spot_at k)) (dy_of (spot_at k)) u a) e.1 d in
        absurd (never_both u v (dx_of (spot_at k)) (dy_of (spot_at k)) b f))
    | inr le ↦ (let e = at_place u v in
        let same : place_of u v ≡ k = omega arith in
        let x : dx_of (spot_at k) ≡ u = ap (λ (m : ℕ). dx_of (spot_at m)) (sym same) ∙ e.0 in
        let y : dy_of (spot_at k) ≡ v = ap (λ (m : ℕ). dy_of (spot_at m)) (sym same) ∙ e.1 in
        let c = subst (λ (a : ℤ). Before u v a (dy_of (spot_at k))) x b in
        let d = subst (λ (a : ℤ). Before u v u a) y c in
        absurd (never_both u v u v d d))
  ]
]

pub window_best : (cost : ℤ → ℤ → ℕ) (range k size : ℕ) → IsFirstLeast (scanned cost) (window_size range) k → size ≡ scanned cost k
    → IsWindowBest cost range (dx_of (spot_at k)) (dy_of (spot_at k)) size
window_best cost range k size h e = record {
  inside = scan_order.inside range k h.inside;
  is_cost = e;
  is_least = λ u v r. (let a = h.is_least (place_of u v) (place_inside range u v r) in let b = at_vector cost u v in omega arith);
  is_first = λ u v r b. (let a = h.is_first (place_of u v) (place_before u v k b) in let c = at_vector cost u v in omega arith);
}

-- no cost is below its bound
pub bound_under : (s : ℕ → ℕ → ℕ) (r : ℤ → ℤ → ℕ) (b : Block) (dx dy : ℤ) → (b.w ≡ 8) ⊎ (b.w ≡ 16) → (b.h ≡ 8) ⊎ (b.h ≡ 16) → bound_of s r b dx dy ≤ cost_of s r b dx dy
unfolding bound_of cost_of
bound_under s r b dx dy w h =
    let x : 8 * (b.w / 8) ≡ b.w = parts b.w w in
    let y : 8 * (b.h / 8) ≡ b.h = parts b.h h in
    let a = bound_adds (own s b) (moved r b dx dy) (b.w / 8) (b.h / 8) in
    let c : block_difference (own s b) (moved r b dx dy) (8 * (b.w / 8)) (8 * (b.h / 8)) ≡ block_difference (own s b) (moved r b dx dy) b.w b.h = ap (λ (m : ℕ). block_difference (own s b) (moved r b dx dy) m (8 * (b.h / 8))) x ∙ ap (block_difference (own s b) (moved r b dx dy) b.w) y in
    omega arith
  where
    parts : (n : ℕ) → (n ≡ 8) ⊎ (n ≡ 16) → 8 * (n / 8) ≡ n
    parts n (inl e) = rw e refl
    parts n (inr e) = rw e refl
