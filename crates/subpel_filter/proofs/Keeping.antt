-- Samples that are read from planes of half samples.
use Rattle.std.proofs.Common.{◌≡◌, ℕ, ◌+◌, ◌*◌, ◌/◌, ◌%◌, ◌<◌, ◌≤◌, ◌≤ℤ◌, refl, sym, ap, ap₂, ◌∙◌, arith, ℤ, pos, negsuc, ◌+ℤ◌, ◌-ℤ◌}
use Rattle.std.proofs.lemmas.Int.{ints}
use Rattle.enc_tables.specs.declared.records.Vector.{Vector}
use Rattle.spec_film.specs.Places.{place_of}
use Rattle.picture_planes.specs.declared.plane.Plane.{Plane}
use Rattle.picture_planes.specs.Samples.{SameShape}
use Rattle.picture_planes.specs.Margins.{buffer_at, buffer_width, buffer_height, inward, held_at, IsFilled}
use Rattle.picture_planes.proofs.Filling.{nearest_is}
use Rattle.spec_inter.specs.declared.Position.{Position}
use Rattle.spec_inter.specs.declared.Position.TheVariants.{Here, Right, Below, Across, AcrossBelow, Down, DownRight, Middle}
use Rattle.spec_inter.specs.Taps.{mean}
use Rattle.spec_inter.specs.Places.{whole, fraction}
use Rattle.spec_inter.specs.Luma.{first_of, second_of, inter_luma}
use Rattle.spec_inter.specs.Halves.{LumaPlanes, kept_at, kept_quarter, halves_of}
use Rattle.spec_inter.proofs.Halving.{kept_is}
use Rattle.subpel_filter.specs.declared.halves.HalfPlanes.{HalfPlanes}
use Rattle.subpel_filter.specs.Near.{whole_at}
use Rattle.subpel_filter.specs.Predicted.{luma_at, IsShort}
use Rattle.subpel_filter.specs.Halves.{samples_at, AreSized, AreHalves, kept_planes, luma_kept, plane_of, columns_on, rows_on, kept_place, kept_mean}
use Rattle.subpel_filter.proofs.Planing.{place_back, wide_same, high_same}
use Rattle.subpel_filter.proofs.Filled.{whole_4, fraction_4, luma_fits}

-- the four planes have one shape
pub plane_shape : (p : Plane) (halves : HalfPlanes) (position : Position) → AreSized p halves → SameShape p (plane_of p halves position)
plane_shape p halves Here s = (refl, refl, refl)
plane_shape p halves Right s = (refl, refl, refl)
plane_shape p halves Below s = (refl, refl, refl)
plane_shape p halves Across s = s.b
plane_shape p halves AcrossBelow s = s.b
plane_shape p halves Down s = s.h
plane_shape p halves DownRight s = s.h
plane_shape p halves Middle s = s.j

pub plane_wide : (p q : Plane) (halves : HalfPlanes) (position : Position) → AreSized p halves → q ≡ plane_of p halves position → buffer_width q ≡ buffer_width p
plane_wide p q halves position s e = ap buffer_width e ∙ wide_same p (plane_of p halves position) (plane_shape p halves position s)

pub plane_high : (p q : Plane) (halves : HalfPlanes) (position : Position) → AreSized p halves → q ≡ plane_of p halves position → buffer_height q ≡ buffer_height p
plane_high p q halves position s e = ap buffer_height e ∙ high_same p (plane_of p halves position) (plane_shape p halves position s)

-- each byte of the four buffers is what L gives for its place
pub record Agree (L : LumaPlanes) (p : Plane) (halves : HalfPlanes) : Type 0 where
  pub g : (c r : ℕ) → c < buffer_width p → r < buffer_height p → buffer_at p c r ≡ L.g (inward p c) (inward p r)
  pub b : (c r : ℕ) → c < buffer_width p → r < buffer_height p → buffer_at halves.b c r ≡ L.b (inward p c) (inward p r)
  pub h : (c r : ℕ) → c < buffer_width p → r < buffer_height p → buffer_at halves.h c r ≡ L.h (inward p c) (inward p r)
  pub j : (c r : ℕ) → c < buffer_width p → r < buffer_height p → buffer_at halves.j c r ≡ L.j (inward p c) (inward p r)

held_is : (p q : Plane) (c r : ℕ) → q.pad ≡ p.pad → buffer_at q c r ≡ held_at q (inward p c) (inward p r)
held_is p q c r e =
    let back : (n : ℕ) → n ≡ place_of (pos n -ℤ pos p.pad +ℤ pos q.pad) = λ n. sym (ap (λ (k : ℕ). place_of (pos n -ℤ pos p.pad +ℤ pos k)) e ∙ place_back n p.pad) in
    ap₂ (buffer_at q) (back c) (back r)

-- what they hold
pub agree_held : (p : Plane) (halves : HalfPlanes) → IsFilled p → AreSized p halves → Agree (kept_planes p halves) p halves
agree_held p halves filled s = record {
  g = λ c r h k. filled.at c r h k ∙ nearest_is p (inward p c) (inward p r);
  b = λ c r h k. held_is p halves.b c r s.b.2;
  h = λ c r h k. held_is p halves.h c r s.h.2;
  j = λ c r h k. held_is p halves.j c r s.j.2;
}

-- and where half samples stand there, these
pub agree_halves : (p : Plane) (halves : HalfPlanes) → IsFilled p → AreSized p halves → AreHalves p halves → Agree (halves_of (samples_at p)) p halves
agree_halves p halves filled s made = record {
  g = λ c r h k. filled.at c r h k ∙ nearest_is p (inward p c) (inward p r);
  b = λ c r h k. made.b.at c r (omega (arith, wide_same p halves.b s.b, h)) (omega (arith, high_same p halves.b s.b, k)) ∙ ap (λ (n : ℕ). (halves_of (samples_at p)).b (pos c -ℤ pos n) (pos r -ℤ pos n)) s.b.2;
  h = λ c r h k. made.h.at c r (omega (arith, wide_same p halves.h s.h, h)) (omega (arith, high_same p halves.h s.h, k)) ∙ ap (λ (n : ℕ). (halves_of (samples_at p)).h (pos c -ℤ pos n) (pos r -ℤ pos n)) s.h.2;
  j = λ c r h k. made.j.at c r (omega (arith, wide_same p halves.j s.j, h)) (omega (arith, high_same p halves.j s.j, k)) ∙ ap (λ (n : ℕ). (halves_of (samples_at p)).j (pos c -ℤ pos n) (pos r -ℤ pos n)) s.j.2;
}

module _ (L : LumaPlanes) (p : Plane) (halves : HalfPlanes) (agree : Agree L p halves) (c r : ℕ) (X Y : ℤ) (i j : ℕ)
    (ex : pos (c + i + 2) -ℤ pos p.pad ≡ X) (ey : pos (r + j + 2) -ℤ pos p.pad ≡ Y) (across : c + i + 5 < buffer_width p) (down : r + j + 5 < buffer_height p) where
  right : inward p (c + i + 3) ≡ X +ℤ pos 1
  right = omega (arith, ints)

  below : inward p (r + j + 3) ≡ Y +ℤ pos 1
  below = omega (arith, ints)

  pub place_is : (position : Position) → kept_place p halves position c r i j ≡ kept_at L X Y position
  unfolding whole_at
  place_is Here = agree.g (c + i + 2) (r + j + 2) (omega arith) (omega arith) ∙ ap₂ L.g ex ey
  place_is Right = agree.g (c + i + 3) (r + j + 2) (omega arith) (omega arith) ∙ ap₂ L.g right ey
  place_is Below = agree.g (c + i + 2) (r + j + 3) (omega arith) (omega arith) ∙ ap₂ L.g ex below
  place_is Across = agree.b (c + i + 2) (r + j + 2) (omega arith) (omega arith) ∙ ap₂ L.b ex ey
  place_is AcrossBelow = agree.b (c + i + 2) (r + j + 3) (omega arith) (omega arith) ∙ ap₂ L.b ex below
  place_is Down = agree.h (c + i + 2) (r + j + 2) (omega arith) (omega arith) ∙ ap₂ L.h ex ey
  place_is DownRight = agree.h (c + i + 3) (r + j + 2) (omega arith) (omega arith) ∙ ap₂ L.h right ey
  place_is Middle = agree.j (c + i + 2) (r + j + 2) (omega arith) (omega arith) ∙ ap₂ L.j ex ey

-- what the buffers give is what L gives for the place to which the vector leads
pub quarter_is : (L : LumaPlanes) (p : Plane) (halves : HalfPlanes) (v : Vector) (x y i j s t : ℕ) → Agree L p halves → p.pad ≡ 40 → pos s ≡ pos (4 * (x + 38)) +ℤ v.x → pos t ≡ pos (4 * (y + 38)) +ℤ v.y
    → s / 4 + i + 5 < buffer_width p → t / 4 + j + 5 < buffer_height p
    → kept_mean p halves (s % 4) (t % 4) (s / 4) (t / 4) i j ≡ kept_quarter L (pos (x + i) +ℤ whole 4 v.x) (pos (y + j) +ℤ whole 4 v.y) (fraction 4 v.x) (fraction 4 v.y)
quarter_is L p halves v x y i j s t agree pad es et ps pt =
    let X : ℤ = pos (x + i) +ℤ whole 4 v.x in
    let Y : ℤ = pos (y + j) +ℤ whole 4 v.y in
    let ex = column (s / 4) (x + 38) x i p.pad (whole 4 v.x) (whole_4 s (x + 38) v.x es) refl pad in
    let ey = column (t / 4) (y + 38) y j p.pad (whole 4 v.y) (whole_4 t (y + 38) v.y et) refl pad in
    let at = place_is L p halves agree (s / 4) (t / 4) X Y i j ex ey ps pt in
    ap₂ mean (at (first_of (s % 4) (t % 4))) (at (second_of (s % 4) (t % 4)))
    ∙ ap₂ (λ (a b : ℕ). kept_quarter L X Y a b) (fraction_4 s (x + 38) v.x es) (fraction_4 t (y + 38) v.y et)
  where
    column : (c a x i pad : ℕ) (w : ℤ) → pos c ≡ pos a +ℤ w → a ≡ x + 38 → pad ≡ 40 → pos (c + i + 2) -ℤ pos pad ≡ pos (x + i) +ℤ w
    column c a x i pad w e b d = omega (arith, ints)

pub luma_is : (p : Plane) (halves : HalfPlanes) (v : Vector) (x y i j : ℕ)
    → kept_quarter (halves_of (samples_at p)) (pos (x + i) +ℤ whole 4 v.x) (pos (y + j) +ℤ whole 4 v.y) (fraction 4 v.x) (fraction 4 v.y) ≡ luma_at p x y v i j
unfolding inter_luma
luma_is p halves v x y i j = kept_is (samples_at p) (pos (x + i)) (pos (y + j)) v

pub kept_place_is : (p a : Plane) (halves : HalfPlanes) (position other : Position) (k l c r i j : ℕ) → a ≡ plane_of p halves position → k ≡ 2 + columns_on position → l ≡ 2 + rows_on position → position ≡ other
    → whole_at a k l c r i j ≡ kept_place p halves other c r i j
kept_place_is p a halves position other k l c r i j ea ek el e =
    ap (λ (q : Plane). whole_at q k l c r i j) ea
    ∙ ap₂ (λ (m n : ℕ). whole_at (plane_of p halves position) m n c r i j) ek el
    ∙ ap (λ (t : Position). kept_place p halves t c r i j) e

whole_part : (z : ℤ) → pos 0 ≤ℤ z → pos (place_of z) ≡ z
whole_part (pos n) h = refl
whole_part (negsuc n) h = absurd (omega (arith, ints))

-- where the half planes hold the plane's half samples, what is read from them are the samples of the definition
pub kept_same : (p : Plane) (halves : HalfPlanes) (v : Vector) (x y w h i j : ℕ) → IsFilled p → AreSized p halves → AreHalves p halves → p.pad ≡ 40 → x + w ≤ p.width → y + h ≤ p.height → IsShort v → i < w → j < h
    → luma_kept p halves x y v i j ≡ luma_at p x y v i j
kept_same p halves v x y w h i j filled sized made pad right below short a b =
    let left = short.left in
    let up = short.up in
    let s : ℕ = place_of (pos (4 * (x + 38)) +ℤ v.x) in
    let t : ℕ = place_of (pos (4 * (y + 38)) +ℤ v.y) in
    let es : pos s ≡ pos (4 * (x + 38)) +ℤ v.x = whole_part (pos (4 * (x + 38)) +ℤ v.x) (omega (arith, ints)) in
    let et : pos t ≡ pos (4 * (y + 38)) +ℤ v.y = whole_part (pos (4 * (y + 38)) +ℤ v.y) (omega (arith, ints)) in
    let ps = luma_fits s x w i p.width p.pad v.x es short.right right a pad in
    let pt = luma_fits t y h j p.height p.pad v.y et short.down below b pad in
    sym (quarter_is (kept_planes p halves) p halves v x y i j s t (agree_held p halves filled sized) pad es et ps pt)
    ∙ quarter_is (halves_of (samples_at p)) p halves v x y i j s t (agree_halves p halves filled sized made) pad es et ps pt
    ∙ luma_is p halves v x y i j
