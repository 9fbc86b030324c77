-- Sizes of pictures that stay, and numbers of macroblocks.
use Rattle.std.proofs.Common.{◌≡◌, ℕ, ◌+◌, ◌-◌, ◌*◌, ◌/◌, ◌%◌, ◌<◌, ◌≤◌, refl, sym, ap, subst, ◌∙◌, arith}
use Rattle.std.proofs.Math.Nat.{div-lt_iff_lt-mul}
use Rattle.std.proofs.lemmas.Nat.{mul-le}
use Rattle.picture_planes.specs.declared.plane.Plane.{Plane}
use Rattle.picture_planes.specs.declared.picture.Picture.{Picture}
use Rattle.picture_planes.specs.Samples.{SameShape}
use Rattle.picture_planes.specs.Pictures.{SameShapes}
use Rattle.picture_planes.specs.declared.stripe.Stripe.{Stripe}
use Rattle.slice_coder.specs.Plans.{HoldsRows, IsWhole}

shape_same : (a : Plane) → SameShape a a
shape_same a = (refl, refl, refl)

shape_then : (a b c : Plane) → SameShape a b → SameShape b c → SameShape a c
shape_then a b c (p, q, r) (s, t, u) = (s ∙ p, t ∙ q, u ∙ r)

pub shapes_same : (a : Picture) → SameShapes a a
shapes_same a = (shape_same a.y, shape_same a.cb, shape_same a.cr)

pub shapes_then : (a b c : Picture) → SameShapes a b → SameShapes b c → SameShapes a c
shapes_then a b c (p, q, r) (s, t, u) = (shape_then a.y b.y c.y p s, shape_then a.cb b.cb c.cb q t, shape_then a.cr b.cr c.cr r u)

pub width_kept : (a b : Picture) → SameShapes a b → b.y.width ≡ a.y.width
width_kept a b ((w, h, p), q, r) = w

-- a stripe that is coded into keeps its rows
pub holds_kept : (s t : Stripe) (a b : ℕ) → t.first ≡ s.first → SameShapes s.picture.now t.picture.now → HoldsRows s a b → HoldsRows t a b
holds_kept s t a b f ((w, h, p), q, r) holds =
    let ends : 16 * b ≤ 16 * s.first + s.picture.now.y.height = holds.ends in
    let begins : s.first ≤ a = holds.begins in
    record { begins = omega arith; ends = omega arith }

-- a macroblock of so many whole rows is in one of them
pub row_inside : (n rows across : ℕ) → 0 < across → n < rows * across → n / across < rows
row_inside n rows across some h = (div-lt_iff_lt-mul some).1 h

-- the macroblocks of rows a to b - 1 end before those of row b
pub rows_end : (a b across down : ℕ) → a ≤ b → b ≤ down → a * across + (b - a) * across ≤ across * down
rows_end a b across down h k =
    let least : across ≤ across = omega arith in
    let most : b * across ≤ down * across = mul-le b across down across k least in
    let e : a + (b - a) ≡ b = omega arith in
    let one : a * across + (b - a) * across ≡ (a + (b - a)) * across = grind arith in
    let two : (a + (b - a)) * across ≡ b * across = ap (λ (n : ℕ). n * across) e in
    let three : down * across ≡ across * down = grind arith in
    omega arith

pub few : (across down : ℕ) → across ≤ 256 → down ≤ 144 → across * down ≤ 36864
few across down h k = mul-le across down 256 144 h k

-- and so does a slice of these rows
pub slice_ends : (first count a b across down : ℕ) → first ≡ a * across → count ≡ (b - a) * across → a ≤ b → b ≤ down → first + count ≤ across * down
slice_ends first count a b across down f c h k =
    let same : first + count ≡ a * across + (b - a) * across = ap (λ (n : ℕ). n + count) f ∙ ap (λ (n : ℕ). a * across + n) c in
    subst (λ (n : ℕ). n ≤ across * down) (sym same) (rows_end a b across down h k)

pub some_macroblocks : (count a b across : ℕ) → count ≡ (b - a) * across → a < b → 0 < across → 0 < count
some_macroblocks count a b across c h k =
    let least : 1 * 1 ≤ (b - a) * across = mul-le 1 1 (b - a) across (omega arith) (omega arith) in
    omega arith

pub some_across : (p : Picture) → IsWhole p → 0 < p.y.width / 16
some_across p w =
    let whole : p.y.width % 16 ≡ 0 = w.columns in
    let some : 0 < p.y.width = p.y.size.0 in
    omega arith

pub across_some : (p : Picture) (across : ℕ) → p.y.width ≡ 16 * across → 0 < across
across_some p across w =
    let some : 0 < p.y.width = p.y.size.0 in
    omega arith
