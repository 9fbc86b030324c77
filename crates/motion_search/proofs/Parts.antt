-- The sums of a block's 8x8 parts, and how far they are apart.
use Rattle.std.proofs.Common.{◌≡◌, ℕ, zero, suc, ◌+◌, ◌-◌, ◌*◌, ◌/◌, ◌<◌, ◌≤◌, ◌⊎◌, inl, inr, [], ◌∷◌, get_or, ap, ◌∙◌, arith, min}
use Rattle.std.proofs.lemmas.Int.{ints}
use Rattle.std.specs.Prelude.{ℤ, pos, ◌+ℤ◌}
use Rattle.std.specs.Int.{abs_diff}
use Rattle.spec_basics.specs.Sums.{sum_below}
use Rattle.spec_kernels.specs.Sums.{block_sum, shifted}
use Rattle.spec_kernels.proofs.SumLaws.{block-same}
use Rattle.spec_search.specs.declared.blocks.Block.{Block}
use Rattle.spec_search.specs.declared.blocks.Spot.{Spot}
use Rattle.spec_search.specs.Scan.{dx_of, dy_of}
use Rattle.spec_search.specs.Window.{own, moved}
use Rattle.picture_planes.specs.declared.plane.Plane.{Plane}
use Rattle.picture_planes.specs.Samples.{at}
use Rattle.picture_planes.specs.Margins.{nearest, inward}
use Rattle.block_sums.specs.declared.table.SumTable.{SumTable}
use Rattle.block_sums.specs.Tables.{IsTableOf, sum_at}
use Rattle.motion_search.specs.Planes.{IsBlockIn, IsNear}
use Rattle.motion_search.proofs.Costs.{away}

pub within : (n k : ℕ) → (n ≡ 8) ⊎ (n ≡ 16) → k < n / 8 → 8 * k + 8 ≤ n
within n k (inl e) p = let q = rw e at p in omega arith
within n k (inr e) p = let q = rw e at p in omega arith

inside_at : (p : Plane) (x y : ℕ) → x < p.width → y < p.height → nearest p (pos x) (pos y) ≡ at p x y
inside_at p x y h k =
    let e : min x (p.width - 1) ≡ x = omega arith in
    let f : min y (p.height - 1) ≡ y = omega arith in
    ap (λ (m : ℕ). at p m (min y (p.height - 1))) e ∙ ap (at p x) f

-- a part of the block in the source
pub part_own : (t : SumTable) (p : Plane) (b : Block) (k l c r : ℕ) → IsTableOf t p → IsBlockIn t.width t.height b → k < b.w / 8 → l < b.h / 8 → c ≡ b.x + t.pad + 8 * k → r ≡ b.y + t.pad + 8 * l
    → sum_at t c r ≡ block_sum (shifted (own (at p) b) (8 * k) (8 * l)) 8 8
part_own t p b k l c r h ib m n e f =
    let sw = h.shape.width in
    let sh = h.shape.height in
    let sp = h.shape.pad in
    let ax = ib.across in
    let ay = ib.down in
    let x = within b.w k ib.wide m in
    let y = within b.h l ib.high n in
    h.sums c r (omega arith) (omega arith)
    ∙ block-same (λ i j. nearest p (inward p (c + i)) (inward p (r + j))) (shifted (own (at p) b) (8 * k) (8 * l)) 8 8 (λ i j d g.
    (let u : inward p (c + i) ≡ pos (b.x + (8 * k + i)) = omega (arith, ints) in
    let v : inward p (r + j) ≡ pos (b.y + (8 * l + j)) = omega (arith, ints) in
    ap (λ (q : ℤ). nearest p q (inward p (r + j))) u ∙ ap (nearest p (pos (b.x + (8 * k + i)))) v
    ∙ inside_at p (b.x + (8 * k + i)) (b.y + (8 * l + j)) (omega arith) (omega arith)))

-- a part of the block, a vector away in the reference
pub part_moved : (t : SumTable) (p : Plane) (b : Block) (s : Spot) (k l c r : ℕ) → IsTableOf t p → t.pad ≡ 40 → IsBlockIn t.width t.height b → IsNear s → k < b.w / 8 → l < b.h / 8
    → c ≡ b.x + t.pad + s.column - s.ring + 8 * k → r ≡ b.y + t.pad + s.row - s.ring + 8 * l
    → sum_at t c r ≡ block_sum (shifted (moved (nearest p) b (dx_of s) (dy_of s)) (8 * k) (8 * l)) 8 8
part_moved t p b s k l c r h m ib near kk ll e f =
    let sp = h.shape.pad in
    let ax = ib.across in
    let ay = ib.down in
    let nr = near.ring in
    let nc = near.column in
    let nw = near.row in
    let x = within b.w k ib.wide kk in
    let y = within b.h l ib.high ll in
    h.sums c r (omega arith) (omega arith)
    ∙ block-same (λ i j. nearest p (inward p (c + i)) (inward p (r + j))) (shifted (moved (nearest p) b (dx_of s) (dy_of s)) (8 * k) (8 * l)) 8 8 (λ i j d g.
    (let u : inward p (c + i) ≡ pos (b.x + (8 * k + i)) +ℤ dx_of s = away b.x (8 * k + i) p.pad s.column s.ring (c + i) (omega arith) (omega arith) in
    let v : inward p (r + j) ≡ pos (b.y + (8 * l + j)) +ℤ dy_of s = away b.y (8 * l + j) p.pad s.row s.ring (r + j) (omega arith) (omega arith) in
    ap (λ (q : ℤ). nearest p q (inward p (r + j))) u ∙ ap (nearest p (pos (b.x + (8 * k + i)) +ℤ dx_of s)) v))

at_most_two : (n k : ℕ) → (n ≡ 8) ⊎ (n ≡ 16) → suc (suc k) < n / 8 → ⊥
at_most_two n k (inl e) p = let q = rw e at p in omega arith
at_most_two n k (inr e) p = let q = rw e at p in omega arith

pub listed : (b : Block) (f : ℕ → ℕ → ℕ) (p q r s : ℕ) → (b.w ≡ 8) ⊎ (b.w ≡ 16) → (b.h ≡ 8) ⊎ (b.h ≡ 16) → p ≡ f 0 0 → (1 < b.w / 8 → q ≡ f 1 0) → (1 < b.h / 8 → r ≡ f 0 1) → (1 < b.w / 8 → 1 < b.h / 8 → s ≡ f 1 1)
    → (k l : ℕ) → k < b.w / 8 → l < b.h / 8 → get_or (p ∷ q ∷ r ∷ s ∷ []) (2 * l + k) 0 ≡ f k l
listed b f p q r s w h e0 e1 e2 e3 zero zero m n = e0
listed b f p q r s w h e0 e1 e2 e3 (suc zero) zero m n = e1 m
listed b f p q r s w h e0 e1 e2 e3 zero (suc zero) m n = e2 n
listed b f p q r s w h e0 e1 e2 e3 (suc zero) (suc zero) m n = e3 m n
listed b f p q r s w h e0 e1 e2 e3 (suc (suc k)) l m n = absurd (at_most_two b.w k w m)
listed b f p q r s w h e0 e1 e2 e3 zero (suc (suc l)) m n = absurd (at_most_two b.h l h n)
listed b f p q r s w h e0 e1 e2 e3 (suc zero) (suc (suc l)) m n = absurd (at_most_two b.h l h n)

pub sixteen : (n : ℕ) → (n ≡ 8) ⊎ (n ≡ 16) → 1 < n / 8 → n ≡ 16
sixteen n (inl e) p = let q = rw e at p in absurd (omega arith)
sixteen n (inr e) p = e

pub some_part : (n : ℕ) → (n ≡ 8) ⊎ (n ≡ 16) → 0 < n / 8
some_part n (inl e) = rw e (omega arith)
some_part n (inr e) = rw e (omega arith)

pub second_part : (n : ℕ) → n ≡ 16 → 1 < n / 8
second_part n e = rw e (omega arith)

-- all parts together
pub put_together : (f : ℕ → ℕ → ℕ) (w h p q r s : ℕ) → (w ≡ 8) ⊎ (w ≡ 16) → (h ≡ 8) ⊎ (h ≡ 16) → p ≡ f 0 0 → (w ≡ 16 → q ≡ f 1 0) → (w ≡ 8 → q ≡ 0) → (h ≡ 16 → r ≡ f 0 1) → (h ≡ 8 → r ≡ 0)
    → (w ≡ 16 → h ≡ 16 → s ≡ f 1 1) → (w ≡ 8 → s ≡ 0) → (h ≡ 8 → s ≡ 0) → p + q + r + s ≡ block_sum f (w / 8) (h / 8)
unfolding block_sum sum_below
put_together f w h p q r s (inl a) (inl b) e0 q1 q0 r1 r0 s1 sw sh = let x = q0 a in let y = r0 b in let z = sw a in rw (a, b) (omega arith)
put_together f w h p q r s (inl a) (inr b) e0 q1 q0 r1 r0 s1 sw sh = let x = q0 a in let y = r1 b in let z = sw a in rw (a, b) (omega arith)
put_together f w h p q r s (inr a) (inl b) e0 q1 q0 r1 r0 s1 sw sh = let x = q1 a in let y = r0 b in let z = sh b in rw (a, b) (omega arith)
put_together f w h p q r s (inr a) (inr b) e0 q1 q0 r1 r0 s1 sw sh = let x = q1 a in let y = r1 b in let z = s1 a b in rw (a, b) (omega arith)

pub apart_same : (a b x y q : ℕ) → q ≡ abs_diff a b → a ≡ x → b ≡ y → q ≡ abs_diff x y
apart_same a b x y q e f g = e ∙ ap (λ (k : ℕ). abs_diff k b) f ∙ ap (abs_diff x) g
