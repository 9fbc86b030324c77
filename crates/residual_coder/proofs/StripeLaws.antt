-- Blocks written in a plane that begins with a lower row of a larger one.
use Rattle.std.proofs.Common.{◌≡◌, ◌≤◌, ◌+◌, ◌-◌, ◌*◌, ◌++◌, ℕ, zero, suc, List, length, take, drop, replicate, refl, sym, ap, ap₂, ◌∙◌, arith, append_assoc}
use Rattle.std.proofs.lemmas.List.{length-replicate}
use Rattle.std.proofs.Math.Seq.{drop-append-add, take-append-add}
use Rattle.picture_planes.specs.declared.plane.Plane.{Plane}
use Rattle.spec_film.specs.Over.{over}
use Rattle.picture_planes.specs.Samples.{samples_of}
use Rattle.spec_reconstruction.specs.Parts.{with_rows, with_block}
use Rattle.residual_coder.specs.Stripes.{samples_from}

-- a place that many rows further down
pub place_below : (top y wide x : ℕ) → top ≤ y → y * wide + x ≡ top * wide + ((y - top) * wide + x)
place_below top y wide x h =
    let whole : y ≡ top + (y - top) = omega arith in
    let parts : (top + (y - top)) * wide ≡ top * wide + (y - top) * wide = grind arith in
    let product : y * wide ≡ top * wide + (y - top) * wide = ap (λ (n : ℕ). n * wide) whole ∙ parts in
    omega (arith, product)

over_behind : (zs xs w : List ℕ) (i : ℕ) → over (zs ++ xs) (length zs + i) w ≡ zs ++ over xs i w
over_behind zs xs w i =
    ap₂ (λ (a b : List ℕ). a ++ (w ++ drop (length w) b)) (take-append-add zs xs i) (drop-append-add zs xs i)
    ∙ append_assoc zs (take i xs) (w ++ drop (length w) (drop i xs))

-- rows of a block that are written behind other rows
rows_behind : (wide x y n top : ℕ) (block zs xs : List ℕ) → length zs ≡ top * wide → top ≤ y → (k : ℕ) → with_rows wide x y n block k (zs ++ xs) ≡ zs ++ with_rows wide x (y - top) n block k xs
unfolding with_rows
rows_behind wide x y n top block zs xs long h zero = refl
rows_behind wide x y n top block zs xs long h (suc k) =
    let w : List ℕ = take n (drop (k * n) block) in
    let before : List ℕ = with_rows wide x (y - top) n block k xs in
    let row : y + k - top ≡ y - top + k = omega arith in
    let place : (y + k) * wide + x ≡ length zs + ((y - top + k) * wide + x) =
    place_below top (y + k) wide x (omega arith) ∙ ap₂ (λ (m r : ℕ). m + (r * wide + x)) (sym long) row in
    ap₂ (λ (l : List ℕ) (i : ℕ). over l i w) (rows_behind wide x y n top block zs xs long h k) place
    ∙ over_behind zs before w ((y - top + k) * wide + x)

-- a block that is written in the plane is written in the larger one
pub written_from : (p q : Plane) (top x y n : ℕ) (block : List ℕ) → q.width ≡ p.width → top ≤ y → samples_of q ≡ with_block p.width x (y - top) n block (samples_of p)
    → samples_from top q ≡ with_block p.width x y n block (samples_from top p)
unfolding samples_from
written_from p q top x y n block same h done =
    ap₂ (λ (v : ℕ) (l : List ℕ). replicate {A = ℕ} (top * v) 0 ++ l) same done
    ∙ sym (rows_behind p.width x y n top block (replicate {A = ℕ} (top * p.width) 0) (samples_of p) (length-replicate {A = ℕ} (top * p.width) 0) h n)
