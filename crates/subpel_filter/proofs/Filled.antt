-- A filled margin gives each sample of the definition.
use Rattle.std.proofs.Common.{◌≡◌, ℕ, ◌+◌, ◌*◌, ◌/◌, ◌%◌, ◌<◌, ◌≤◌, refl, ap, ap₂, ◌∙◌, arith, ℤ, pos, negsuc, ◌+ℤ◌, ◌-ℤ◌, ◌≤ℤ◌, w16, FitsSigned}
use Rattle.std.proofs.lemmas.Int.{ints, to_z-of_z, fits_signed_from_abs}
use mir.Val.{to_z, of_z}
use Rattle.enc_tables.specs.declared.records.Vector.{Vector}
use Rattle.spec_film.specs.Places.{sample_at}
use Rattle.picture_planes.specs.declared.plane.Plane.{Plane}
use Rattle.picture_planes.specs.Samples.{samples_of}
use Rattle.picture_planes.specs.Margins.{buffer_at, buffer_width, buffer_height, nearest, IsFilled}
use Rattle.picture_planes.proofs.Filling.{nearest_is}
use Rattle.spec_inter.specs.declared.Position.{Position}
use Rattle.spec_inter.specs.declared.Position.TheVariants.{Here, Right, Below, Across, AcrossBelow, Down, DownRight, Middle}
use Rattle.spec_inter.specs.Taps.{half, mean}
use Rattle.spec_inter.specs.Places.{whole, fraction}
use Rattle.spec_inter.specs.Luma.{along, down, position_of, quarter_of, first_of, second_of, about, inter_luma}
use Rattle.spec_inter.specs.Chroma.{eighth_of, inter_chroma}
use Rattle.subpel_filter.specs.Near.{near_at, quarter_at, eighth_in}
use Rattle.subpel_filter.specs.Predicted.{luma_at, chroma_at}

pub record Agree (f g : ℕ → ℕ → ℕ) : Type 0 where
  pub at : (k l : ℕ) → k < 6 → l < 6 → f k l ≡ g k l

along_same : (f g : ℕ → ℕ → ℕ) (l : ℕ) → Agree f g → l < 6 → along f l ≡ along g l
along_same f g l h p = rw (h.at 0 l (omega arith) p, h.at 1 l (omega arith) p, h.at 2 l (omega arith) p, h.at 3 l (omega arith) p, h.at 4 l (omega arith) p, h.at 5 l (omega arith) p) refl

down_same : (f g : ℕ → ℕ → ℕ) (k : ℕ) → Agree f g → k < 6 → down f k ≡ down g k
down_same f g k h p = rw (h.at k 0 p (omega arith), h.at k 1 p (omega arith), h.at k 2 p (omega arith), h.at k 3 p (omega arith), h.at k 4 p (omega arith), h.at k 5 p (omega arith)) refl

position_same : (f g : ℕ → ℕ → ℕ) (position : Position) → Agree f g → position_of f position ≡ position_of g position
position_same f g Here h = h.at 2 2 (omega arith) (omega arith)
position_same f g Right h = h.at 3 2 (omega arith) (omega arith)
position_same f g Below h = h.at 2 3 (omega arith) (omega arith)
position_same f g Across h = ap half (along_same f g 2 h (omega arith))
position_same f g AcrossBelow h = ap half (along_same f g 3 h (omega arith))
position_same f g Down h = ap half (down_same f g 2 h (omega arith))
position_same f g DownRight h = ap half (down_same f g 3 h (omega arith))
position_same f g Middle h = rw (along_same f g 0 h (omega arith), along_same f g 1 h (omega arith), along_same f g 2 h (omega arith), along_same f g 3 h (omega arith), along_same f g 4 h (omega arith), along_same f g 5 h (omega arith)) refl

quarter_same : (f g : ℕ → ℕ → ℕ) (u v : ℕ) → Agree f g → quarter_of f u v ≡ quarter_of g u v
quarter_same f g u v h = ap₂ mean (position_same f g (first_of u v) h) (position_same f g (second_of u v) h)

-- whole places and fractions, from all parts counted together
pub whole_4 : (t a : ℕ) (v : ℤ) → pos t ≡ pos (4 * a) +ℤ v → pos (t / 4) ≡ pos a +ℤ whole 4 v
whole_4 t a (pos k) e = omega (arith, ints)
whole_4 t a (negsuc k) e = omega (arith, ints)

pub fraction_4 : (t a : ℕ) (v : ℤ) → pos t ≡ pos (4 * a) +ℤ v → t % 4 ≡ fraction 4 v
fraction_4 t a (pos k) e = omega (arith, ints)
fraction_4 t a (negsuc k) e = omega (arith, ints)

pub whole_8 : (t a : ℕ) (v : ℤ) → pos t ≡ pos (8 * a) +ℤ v → pos (t / 8) ≡ pos a +ℤ whole 8 v
whole_8 t a (pos k) e = omega (arith, ints)
whole_8 t a (negsuc k) e = omega (arith, ints)

pub fraction_8 : (t a : ℕ) (v : ℤ) → pos t ≡ pos (8 * a) +ℤ v → t % 8 ≡ fraction 8 v
fraction_8 t a (pos k) e = omega (arith, ints)
fraction_8 t a (negsuc k) e = omega (arith, ints)

-- a byte of the buffer is the sample at its place
pub byte_is : (p : Plane) (c r : ℕ) (x y : ℤ) → IsFilled p → c < buffer_width p → r < buffer_height p → pos c -ℤ pos p.pad ≡ x → pos r -ℤ pos p.pad ≡ y → buffer_at p c r ≡ sample_at p.width p.height (samples_of p) x y
byte_is p c r x y filled h k a b = filled.at c r h k ∙ ap₂ (nearest p) a b ∙ nearest_is p x y

-- what the buffer gives is the sample of the definition
pub luma_is : (p : Plane) (v : Vector) (x y i j s t : ℕ) → IsFilled p → p.pad ≡ 40 → pos s ≡ pos (4 * (x + 38)) +ℤ v.x → pos t ≡ pos (4 * (y + 38)) +ℤ v.y
    → s / 4 + i + 5 < buffer_width p → t / 4 + j + 5 < buffer_height p → quarter_at p (s % 4) (t % 4) (s / 4) (t / 4) i j ≡ luma_at p x y v i j
unfolding quarter_at inter_luma
luma_is p v x y i j s t filled pad es et ps pt =
    let f : ℤ → ℤ → ℕ = sample_at p.width p.height (samples_of p) in
    let wx = whole_4 s (x + 38) v.x es in
    let wy = whole_4 t (y + 38) v.y et in
    quarter_same (near_at p (s / 4 + i) (t / 4 + j)) (about f (pos (x + i) +ℤ whole 4 v.x) (pos (y + j) +ℤ whole 4 v.y)) (s % 4) (t % 4)
    (record {
      at = λ k l q m. byte_is p (s / 4 + i + k) (t / 4 + j + l) (pos (x + i) +ℤ whole 4 v.x -ℤ pos 2 +ℤ pos k) (pos (y + j) +ℤ whole 4 v.y -ℤ pos 2 +ℤ pos l) filled (omega (arith, ps, q)) (omega (arith, pt, m))
          (column (s / 4) (x + 38) x i k p.pad (whole 4 v.x) wx refl pad) (column (t / 4) (y + 38) y j l p.pad (whole 4 v.y) wy refl pad);
    })
    ∙ ap₂ (λ (a b : ℕ). quarter_of (about f (pos (x + i) +ℤ whole 4 v.x) (pos (y + j) +ℤ whole 4 v.y)) a b) (fraction_4 s (x + 38) v.x es) (fraction_4 t (y + 38) v.y et)
  where
    column : (c a x i k pad : ℕ) (w : ℤ) → pos c ≡ pos a +ℤ w → a ≡ x + 38 → pad ≡ 40 → pos (c + i + k) -ℤ pos pad ≡ pos (x + i) +ℤ w -ℤ pos 2 +ℤ pos k
    column c a x i k pad w e b d = omega (arith, ints)

pub chroma_is : (p : Plane) (v : Vector) (x y i j s t : ℕ) → IsFilled p → p.pad ≡ 20 → pos s ≡ pos (8 * (x + 20)) +ℤ v.x → pos t ≡ pos (8 * (y + 20)) +ℤ v.y
    → s / 8 + i + 1 < buffer_width p → t / 8 + j + 1 < buffer_height p → eighth_in p (s % 8) (t % 8) (s / 8) (t / 8) i j ≡ chroma_at p x y v i j
unfolding eighth_in inter_chroma
chroma_is p v x y i j s t filled pad es et ps pt =
    let f : ℤ → ℤ → ℕ = sample_at p.width p.height (samples_of p) in
    let wx = whole_8 s (x + 20) v.x es in
    let wy = whole_8 t (y + 20) v.y et in
    let X : ℤ = pos (x + i) +ℤ whole 8 v.x in
    let Y : ℤ = pos (y + j) +ℤ whole 8 v.y in
    let cx : pos (s / 8 + i + 0) -ℤ pos p.pad ≡ pos (x + i) +ℤ whole 8 v.x = here (s / 8) (x + 20) x i p.pad (whole 8 v.x) wx refl pad in
    let cy : pos (t / 8 + j + 0) -ℤ pos p.pad ≡ pos (y + j) +ℤ whole 8 v.y = here (t / 8) (y + 20) y j p.pad (whole 8 v.y) wy refl pad in
    let dx : pos (s / 8 + i + 1) -ℤ pos p.pad ≡ pos (x + i) +ℤ whole 8 v.x +ℤ pos 1 = next (s / 8) (x + 20) x i p.pad (whole 8 v.x) wx refl pad in
    let dy : pos (t / 8 + j + 1) -ℤ pos p.pad ≡ pos (y + j) +ℤ whole 8 v.y +ℤ pos 1 = next (t / 8) (y + 20) y j p.pad (whole 8 v.y) wy refl pad in
    let a = byte_is p (s / 8 + i + 0) (t / 8 + j + 0) _ _ filled (omega (arith, ps)) (omega (arith, pt)) cx cy in
    let b = byte_is p (s / 8 + i + 1) (t / 8 + j + 0) _ _ filled (omega (arith, ps)) (omega (arith, pt)) dx cy in
    let c = byte_is p (s / 8 + i + 0) (t / 8 + j + 1) _ _ filled (omega (arith, ps)) (omega (arith, pt)) cx dy in
    let d = byte_is p (s / 8 + i + 1) (t / 8 + j + 1) _ _ filled (omega (arith, ps)) (omega (arith, pt)) dx dy in
    eighth_same _ _ _ _ _ _ _ _ _ _ _ _ a b c d (fraction_8 s (x + 20) v.x es) (fraction_8 t (y + 20) v.y et)
  where
    here : (c a x i pad : ℕ) (w : ℤ) → pos c ≡ pos a +ℤ w → a ≡ x + 20 → pad ≡ 20 → pos (c + i + 0) -ℤ pos pad ≡ pos (x + i) +ℤ w
    here c a x i pad w e b d = omega (arith, ints)

    next : (c a x i pad : ℕ) (w : ℤ) → pos c ≡ pos a +ℤ w → a ≡ x + 20 → pad ≡ 20 → pos (c + i + 1) -ℤ pos pad ≡ pos (x + i) +ℤ w +ℤ pos 1
    next c a x i pad w e b d = omega (arith, ints)

    eighth_same : (a b c d u v a' b' c' d' u' v' : ℕ) → a ≡ a' → b ≡ b' → c ≡ c' → d ≡ d' → u ≡ u' → v ≡ v' → eighth_of a b c d u v ≡ eighth_of a' b' c' d' u' v'
    eighth_same a b c d u v a' b' c' d' u' v' e f g h k l = cc

-- the surroundings of a block lie in the buffer
pub luma_fits : (s x w i width pad : ℕ) (v : ℤ) → pos s ≡ pos (4 * (x + 38)) +ℤ v → v ≤ℤ pos 131 → x + w ≤ width → i < w → pad ≡ 40 → s / 4 + i + 5 < width + 2 * pad
luma_fits s x w i width pad v e high room h k = omega (arith, ints)

pub chroma_fits : (s x w i width pad : ℕ) (v : ℤ) → pos s ≡ pos (8 * (x + 20)) +ℤ v → v ≤ℤ pos 131 → x + w ≤ width → i < w → pad ≡ 20 → s / 8 + i + 1 < width + 2 * pad
chroma_fits s x w i width pad v e high room h k = omega (arith, ints)

-- a part of a vector that was passed on
pub passed : (v : ℤ) (s a : ℕ) → negsuc 130 ≤ℤ v → v ≤ℤ pos 131 → pos s ≡ pos a +ℤ to_z w16 (of_z w16 v) → pos s ≡ pos a +ℤ v
passed v s a low high e = e ∙ ap (λ (z : ℤ). pos a +ℤ z) (to_z-of_z w16 v (fits v low high))
  where
    fits : (z : ℤ) → negsuc 130 ≤ℤ z → z ≤ℤ pos 131 → FitsSigned w16 z
    fits (pos n) low high = fits_signed_from_abs w16 (pos n) (omega (arith, ints))
    fits (negsuc n) low high = fits_signed_from_abs w16 (negsuc n) (omega (arith, ints))
