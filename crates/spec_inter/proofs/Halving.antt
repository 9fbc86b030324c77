-- Half samples that are kept are those of the formulas.
use Rattle.std.proofs.Common.{ℕ, ℤ, pos, ◌≡◌, ◌+ℤ◌, ◌-ℤ◌, refl, ap, ap₂, arith}
use Rattle.std.proofs.lemmas.Int.{ints}
use Rattle.enc_tables.specs.declared.records.Vector.{Vector}
use Rattle.spec_inter.specs.declared.Position.{Position}
use Rattle.spec_inter.specs.declared.Position.TheVariants.{Here, Right, Below, Across, AcrossBelow, Down, DownRight, Middle}
use Rattle.spec_inter.specs.Taps.{tap, half, mean}
use Rattle.spec_inter.specs.Places.{whole, fraction}
use Rattle.spec_inter.specs.Luma.{about, position_of, first_of, second_of, moved_luma}
use Rattle.spec_inter.specs.Halves.{kept_at, kept_luma, halves_of}

back : (x : ℤ) → x ≡ x -ℤ pos 2 +ℤ pos 2
back x = omega (arith, ints)

next : (x : ℤ) → x +ℤ pos 1 ≡ x -ℤ pos 2 +ℤ pos 3
next x = omega (arith, ints)

beyond : (x : ℤ) → x +ℤ pos 1 -ℤ pos 2 +ℤ pos 2 ≡ x -ℤ pos 2 +ℤ pos 3
beyond x = omega (arith, ints)

pub position_is : (f : ℤ → ℤ → ℕ) (x y : ℤ) (position : Position) → kept_at (halves_of f) x y position ≡ position_of (about f x y) position
position_is f x y Here = ap₂ f (back x) (back y)
position_is f x y Right = ap₂ f (next x) (back y)
position_is f x y Below = ap₂ f (back x) (next y)
position_is f x y Across = refl
position_is f x y AcrossBelow = ap (λ (t : ℤ). half (tap (pos (f (x -ℤ pos 2 +ℤ pos 0) t)) (pos (f (x -ℤ pos 2 +ℤ pos 1) t)) (pos (f (x -ℤ pos 2 +ℤ pos 2) t)) (pos (f (x -ℤ pos 2 +ℤ pos 3) t)) (pos (f (x -ℤ pos 2 +ℤ pos 4) t)) (pos (f (x -ℤ pos 2 +ℤ pos 5) t)))) (beyond y)
position_is f x y Down = refl
position_is f x y DownRight = ap (λ (t : ℤ). half (tap (pos (f t (y -ℤ pos 2 +ℤ pos 0))) (pos (f t (y -ℤ pos 2 +ℤ pos 1))) (pos (f t (y -ℤ pos 2 +ℤ pos 2))) (pos (f t (y -ℤ pos 2 +ℤ pos 3))) (pos (f t (y -ℤ pos 2 +ℤ pos 4))) (pos (f t (y -ℤ pos 2 +ℤ pos 5))))) (beyond x)
position_is f x y Middle = refl

-- a sample from the planes of half samples is the one to which the vector leads
pub kept_is : (f : ℤ → ℤ → ℕ) (x y : ℤ) (v : Vector) → kept_luma (halves_of f) x y v ≡ moved_luma f x y v
kept_is f x y v =
    let X : ℤ = x +ℤ whole 4 v.x in
    let Y : ℤ = y +ℤ whole 4 v.y in
    ap₂ mean (position_is f X Y (first_of (fraction 4 v.x) (fraction 4 v.y))) (position_is f X Y (second_of (fraction 4 v.x) (fraction 4 v.y)))
