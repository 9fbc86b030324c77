-- The difference of two blocks of buffers is the cost of the vector between them.
use Rattle.std.proofs.Common.{◌≡◌, ◌≢◌, ℕ, ◌+◌, ◌-◌, ◌<◌, ◌≤◌, ◌⊎◌, inl, inr, List, get_or, refl, sym, ap, ◌∙◌, arith}
use Rattle.std.proofs.lemmas.Int.{ints}
use Rattle.std.specs.Prelude.{ℤ, pos, ◌+ℤ◌, ◌-ℤ◌}
use Rattle.std.specs.Int.{abs_diff}
use Rattle.spec_kernels.specs.Sums.{block_sum, block_difference, strided}
use Rattle.spec_kernels.proofs.SumLaws.{block-same}
use Rattle.spec_search.specs.declared.blocks.Block.{Block}
use Rattle.spec_search.specs.declared.blocks.Spot.{Spot}
use Rattle.spec_search.specs.Scan.{dx_of, dy_of}
use Rattle.spec_search.specs.Window.{cost_of}
use Rattle.picture_planes.specs.declared.plane.Plane.{Plane}
use Rattle.picture_planes.specs.Samples.{at}
use Rattle.picture_planes.specs.Margins.{nearest, IsBlock, buffer_at, buffer_row, buffer_width, inward}
use Rattle.picture_planes.proofs.Filling.{buffer_at_row, at_buffer_row}
use Rattle.motion_search.specs.Planes.{costs, Searchable, IsNear}

pub at_buffer : (p : Plane) (x y c r : ℕ) → x < p.width → c ≡ x + p.pad → r ≡ y + p.pad → buffer_at p c r ≡ at p x y
at_buffer p x y c r h e f =
    let a = buffer_at_row p c r (omega arith) in
    let b = at_buffer_row p x y h in
    let g : c ≡ p.pad + x = omega arith in
    a ∙ ap (λ (k : ℕ). get_or (buffer_row p r) k 0) g ∙ ap (λ (k : ℕ). get_or (buffer_row p k) (p.pad + x) 0) f ∙ sym b

pub eight_or : (n : ℕ) → (n ≡ 8) ⊎ (n ≡ 16) → n ≢ 16 → n ≡ 8
eight_or n (inl e) h = e
eight_or n (inr e) h = absurd (h e)

pub sides : (n : ℕ) → (n ≡ 8) ⊎ (n ≡ 16) → (8 ≤ n) × (n ≤ 16)
sides n (inl e) = (omega arith, omega arith)
sides n (inr e) = (omega arith, omega arith)

-- a column or row of the reference's buffer, a vector away
pub away : (x i pad part ring c : ℕ) → ring ≤ pad → c ≡ x + pad + part - ring + i → pos c -ℤ pos pad ≡ pos (x + i) +ℤ (pos part -ℤ pos ring)
away x i pad part ring c p e = omega (arith, ints)

pub cost_is : (s r : Plane) (b : Block) (spot : Spot) (w : ℕ) (xs ys : List ℕ) → Searchable s r b → IsNear spot → b.w ≡ w
    → IsBlock s (b.x + s.pad) (b.y + s.pad) xs → IsBlock r (b.x + r.pad + spot.column - spot.ring) (b.y + r.pad + spot.row - spot.ring) ys
    → block_difference (strided xs (buffer_width s)) (strided ys (buffer_width r)) w b.h ≡ costs s r b (dx_of spot) (dy_of spot)
unfolding cost_of
cost_is s r b spot w xs ys h near e f g =
    let m = h.margin in
    let sw = h.sizes.width in
    let sh = h.sizes.height in
    let ax = h.inside.across in
    let ay = h.inside.down in
    let nr = near.ring in
    let nc = near.column in
    let nw = near.row in
    block-same
    (λ i j. abs_diff (strided xs (buffer_width s) i j) (strided ys (buffer_width r) i j))
    (λ i j. abs_diff (at s (b.x + i) (b.y + j)) (nearest r (pos (b.x + i) +ℤ dx_of spot) (pos (b.y + j) +ℤ dy_of spot))) w b.h
    (λ i j p q.
    (let left = f i j (omega arith) (omega arith) ∙ at_buffer s (b.x + i) (b.y + j) (b.x + s.pad + i) (b.y + s.pad + j) (omega arith) (omega arith) (omega arith) in
    let u = away b.x i r.pad spot.column spot.ring (b.x + r.pad + spot.column - spot.ring + i) (omega arith) refl in
    let v = away b.y j r.pad spot.row spot.ring (b.y + r.pad + spot.row - spot.ring + j) (omega arith) refl in
    let right = g i j (omega arith) (omega arith)
    ∙ h.filled.at (b.x + r.pad + spot.column - spot.ring + i) (b.y + r.pad + spot.row - spot.ring + j) (omega arith) (omega arith)
    ∙ ap (λ (k : ℤ). nearest r k (inward r (b.y + r.pad + spot.row - spot.ring + j))) u
    ∙ ap (nearest r (pos (b.x + i) +ℤ dx_of spot)) v in
    ap (λ (k : ℕ). abs_diff k (strided ys (buffer_width r) i j)) left ∙ ap (abs_diff (at s (b.x + i) (b.y + j))) right))
    ∙ ap (λ (k : ℕ). block_sum (λ i j. abs_diff (at s (b.x + i) (b.y + j)) (nearest r (pos (b.x + i) +ℤ dx_of spot) (pos (b.y + j) +ℤ dy_of spot))) k b.h) (sym e)
