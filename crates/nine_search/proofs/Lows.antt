-- No bound of a sub-macroblock is above 64 times the greatest sample.
use Rattle.std.proofs.Common.{ℕ, zero, suc, ◌+◌, ◌*◌, ◌<◌, ◌≤◌, arith}
use Rattle.std.specs.Prelude.{ℤ, pos, negsuc}
use Rattle.spec_film.specs.Places.{clamped_to}
use Rattle.spec_kernels.specs.Sums.{sum_apart, shifted}
use Rattle.spec_kernels.proofs.SumLaws.{block-most}
use Rattle.spec_search.specs.Scan.{spot_at, dx_of, dy_of}
use Rattle.spec_search.specs.Window.{own, moved, bound_of}
use Rattle.spec_inter_plans.specs.InterPlans.{at as block_at}
use Rattle.picture_planes.specs.declared.plane.Plane.{Plane}
use Rattle.picture_planes.specs.Samples.{at}
use Rattle.picture_planes.specs.Margins.{nearest}
use Rattle.motion_search.specs.Planes.{IsBlockOf}
use Rattle.nine_search.specs.NinePlanes.{sub_bounds}

clamped_low : (u : ℤ) (n : ℕ) → 0 < n → clamped_to u n < n
clamped_low (pos x) n p = omega arith
clamped_low (negsuc x) n p = p

near_low : (r : Plane) → ((x y : ℕ) → x < r.width → y < r.height → at r x y ≤ 255) → (u v : ℤ) → nearest r u v ≤ 255
near_low r b u v = b (clamped_to u r.width) (clamped_to v r.height) (clamped_low u r.width r.size.0) (clamped_low v r.height r.size.2)

apart_low : (f g : ℕ → ℕ → ℕ) → ((i j : ℕ) → i < 8 → j < 8 → f i j ≤ 255) → ((i j : ℕ) → i < 8 → j < 8 → g i j ≤ 255) → sum_apart f g 8 8 ≤ 16320
apart_low f g a b = let m = block-most f 255 8 8 a in let n = block-most g 255 8 8 b in omega arith

weaker : (n : ℕ) → n ≤ 16320 * 1 * 1 → n ≤ 16383
weaker n p = omega arith

block_low : (s : ℕ → ℕ → ℕ) (r : ℤ → ℤ → ℕ) (u v : ℕ) (dx dy : ℤ) → ((i j : ℕ) → i < 8 → j < 8 → s (u + i) (v + j) ≤ 255) → ((a b : ℤ) → r a b ≤ 255) → bound_of s r (block_at u v 8 8) dx dy ≤ 16383
unfolding bound_of
block_low s r u v dx dy a b =
    let mine = own s (block_at u v 8 8) in
    let other = moved r (block_at u v 8 8) dx dy in
    weaker _ (block-most (λ k l. sum_apart (shifted mine (8 * k) (8 * l)) (shifted other (8 * k) (8 * l)) 8 8) 16320 1 1
    (λ k l p q. apart_low (shifted mine (8 * k) (8 * l)) (shifted other (8 * k) (8 * l)) (λ i j t w. a (8 * k + i) (8 * l + j) (omega arith) (omega arith)) (λ i j t w. b _ _)))

pub bounds_low : (s r : Plane) (x y : ℕ) → IsBlockOf s (block_at x y 16 16) → ((x y : ℕ) → x < s.width → y < s.height → at s x y ≤ 255) → ((x y : ℕ) → x < r.width → y < r.height → at r x y ≤ 255)
    → (q n : ℕ) → q < 4 → sub_bounds s r x y q n ≤ 16383
bounds_low s r x y h a b zero n p = let c = h.across in let d = h.down in block_low (at s) (nearest r) x y (dx_of (spot_at n)) (dy_of (spot_at n)) (λ i j t w. a (x + i) (y + j) (omega arith) (omega arith)) (near_low r b)
bounds_low s r x y h a b (suc zero) n p = let c = h.across in let d = h.down in block_low (at s) (nearest r) (x + 8) y (dx_of (spot_at n)) (dy_of (spot_at n)) (λ i j t w. a (x + 8 + i) (y + j) (omega arith) (omega arith)) (near_low r b)
bounds_low s r x y h a b (suc (suc zero)) n p = let c = h.across in let d = h.down in block_low (at s) (nearest r) x (y + 8) (dx_of (spot_at n)) (dy_of (spot_at n)) (λ i j t w. a (x + i) (y + 8 + j) (omega arith) (omega arith)) (near_low r b)
bounds_low s r x y h a b (suc (suc (suc zero))) n p = let c = h.across in let d = h.down in block_low (at s) (nearest r) (x + 8) (y + 8) (dx_of (spot_at n)) (dy_of (spot_at n)) (λ i j t w. a (x + 8 + i) (y + 8 + j) (omega arith) (omega arith)) (near_low r b)
bounds_low s r x y h a b (suc (suc (suc (suc q)))) n p = absurd (omega arith)
