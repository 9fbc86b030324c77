-- What is predicted from pictures of eight bits has eight bits.
use Rattle.std.proofs.Common.{◌≡◌, ◌≤◌, ◌<◌, ◌+◌, ◌-◌, ◌*◌, ◌/◌, ◌%◌, ◌+ℤ◌, ℕ, ℤ, pos, negsuc, List, length, Option, Some, None, refl, arith, lit≤}
use Rattle.std.specs.Prelude.{slice_index_or}
use Rattle.std.proofs.lemmas.Bool.{cases_lt}
use Rattle.std.proofs.Math.Nat.{mul-le-mul_left}
use Rattle.enc_tables.specs.declared.records.MbRecord.{MbRecord}
use Rattle.enc_tables.specs.declared.records.Motion.{Motion}
use Rattle.enc_tables.specs.declared.records.Vector.{Vector}
use Rattle.spec_syntax.proofs.Elements.{below_8}
use Rattle.spec_film.specs.Films.{Planes}
use Rattle.spec_film.specs.Places.{sample_at}
use Rattle.spec_inter.specs.declared.Position.{Position}
use Rattle.spec_inter.specs.declared.Position.TheVariants.{Here, Right, Below, Across, AcrossBelow, Down, DownRight, Middle}
use Rattle.spec_inter.specs.Places.{whole, fraction}
use Rattle.spec_inter.specs.Taps.{mean}
use Rattle.spec_inter.specs.Luma.{position_of, first_of, second_of, about, inter_luma}
use Rattle.spec_inter.specs.Chroma.{eighth_of, inter_chroma}
use Rattle.spec_reconstruction.specs.declared.Site.{Site}
use Rattle.spec_reconstruction.specs.Inter.{Sources, source_at, from_both, predicted_by, motion_of, luma_predicted, chroma_predicted}
use Rattle.spec_coded.specs.Levels.{predicted_planes}
use Rattle.spec_record_laws.specs.Coded.{AreBytes, PlanesFit}
use Rattle.spec_record_laws.proofs.Bytes.{mapped_at, clip1_small}
use Rattle.spec_inter_records.specs.Fits.{SourcesFit}

-- ---- samples

sample_small : (width height : ℕ) (samples : List ℕ) (x y : ℤ) → AreBytes samples → sample_at width height samples x y ≤ 255
unfolding sample_at
sample_small width height samples x y h = h.at _

pub two_small : (p q : ℕ) → p ≤ 255 → q ≤ 255 → mean p q ≤ 255
two_small p q h g = omega arith

position_small : (near : ℕ → ℕ → ℕ) → ((k l : ℕ) → near k l ≤ 255) → (q : Position) → position_of near q ≤ 255
position_small near h Here = h 2 2
position_small near h Right = h 3 2
position_small near h Below = h 2 3
position_small near h Across = clip1_small _
position_small near h AcrossBelow = clip1_small _
position_small near h Down = clip1_small _
position_small near h DownRight = clip1_small _
position_small near h Middle = clip1_small _

pub luma_small : (width height : ℕ) (samples : List ℕ) (x y : ℤ) (v : Vector) → AreBytes samples → inter_luma width height samples x y v ≤ 255
unfolding inter_luma
luma_small width height samples x y v h =
    let near : ℕ → ℕ → ℕ = about (sample_at width height samples) (x +ℤ whole 4 v.x) (y +ℤ whole 4 v.y) in
    let small : (k l : ℕ) → near k l ≤ 255 = λ k l. sample_small width height samples _ _ h in
    two_small _ _ (position_small near small (first_of (fraction 4 v.x) (fraction 4 v.y))) (position_small near small (second_of (fraction 4 v.x) (fraction 4 v.y)))

-- ---- eighths

-- the four weights together
abbrev weights : ℕ → ℕ → ℕ
weights u v = (8 - u) * (8 - v) + u * (8 - v) + (8 - u) * v + u * v

weights_are : (u : ℕ) → u < 8 → (v : ℕ) → v < 8 → weights u v ≡ 64
weights_are = below_8 (λ u. (v : ℕ) → v < 8 → weights u v ≡ 64)
    (λ v lt. omega arith) (λ v lt. omega arith) (λ v lt. omega arith) (λ v lt. omega arith)
    (λ v lt. omega arith) (λ v lt. omega arith) (λ v lt. omega arith) (λ v lt. omega arith)

weighed : (p q r s a b c d : ℕ) → p + q + r + s ≡ 64 → a ≤ 255 → b ≤ 255 → c ≤ 255 → d ≤ 255 → (p * a + q * b + r * c + s * d + 32) / 64 ≤ 255
weighed p q r s a b c d e ha hb hc hd =
    let one = mul-le-mul_left {m = a} {n = 255} p ha in
    let two = mul-le-mul_left {m = b} {n = 255} q hb in
    let three = mul-le-mul_left {m = c} {n = 255} r hc in
    let four = mul-le-mul_left {m = d} {n = 255} s hd in
    omega arith

eighth_small : (a b c d u v : ℕ) → u < 8 → v < 8 → a ≤ 255 → b ≤ 255 → c ≤ 255 → d ≤ 255 → eighth_of a b c d u v ≤ 255
eighth_small a b c d u v hu hv ha hb hc hd = weighed ((8 - u) * (8 - v)) (u * (8 - v)) ((8 - u) * v) (u * v) a b c d (weights_are u hu v hv) ha hb hc hd

fraction_below : (z : ℤ) → fraction 8 z < 8
fraction_below (pos k) = omega arith
fraction_below (negsuc k) = omega arith

chroma_small : (width height : ℕ) (samples : List ℕ) (x y : ℤ) (v : Vector) → AreBytes samples → inter_chroma width height samples x y v ≤ 255
unfolding inter_chroma
chroma_small width height samples x y v h =
    let f : ℤ → ℤ → ℕ = sample_at width height samples in
    let c : ℤ = x +ℤ whole 8 v.x in
    let r : ℤ = y +ℤ whole 8 v.y in
    let small : (a b : ℤ) → f a b ≤ 255 = λ a b. sample_small width height samples a b h in
    eighth_small (f c r) (f (c +ℤ pos 1) r) (f c (r +ℤ pos 1)) (f (c +ℤ pos 1) (r +ℤ pos 1)) (fraction 8 v.x) (fraction 8 v.y) (fraction_below v.x) (fraction_below v.y) (small _ _) (small _ _) (small _ _) (small _ _)

-- ---- from both lists

-- each sample that may be taken from a picture is small
abbrev FromSmall : (Planes → Vector → ℕ) → Option Planes → Type 0
FromSmall f o = (p : Planes) → o ≡ Some p → (v : Vector) → f p v ≤ 255

both_small : (f : Planes → Vector → ℕ) (o q : Option Planes) (v w : Vector) → FromSmall f o → FromSmall f q → from_both f o q v w ≤ 255
both_small f None None v w h g = lit≤ tt
both_small f (Some a) None v w h g = h a refl v
both_small f None (Some b) v w h g = g b refl w
both_small f (Some a) (Some b) v w h g = two_small _ _ (h a refl v) (g b refl w)

by_small : (f : Planes → Vector → ℕ) (s : Sources) (m : Motion) → ((p : Planes) → PlanesFit p → (v : Vector) → f p v ≤ 255) → SourcesFit s → predicted_by f s m ≤ 255
unfolding predicted_by
by_small f s m small fit =
    both_small f (source_at s.list0 (slice_index_or m.refs 0 (negsuc 0))) (source_at s.list1 (slice_index_or m.refs 1 (negsuc 0))) _ _
    (λ p e v. small p (fit.first _ p e) v) (λ p e v. small p (fit.second _ p e) v)

luma_fits : (wide : ℕ) (s : Sources) (site : Site) (mb : MbRecord) → SourcesFit s → AreBytes (luma_predicted wide s site mb)
unfolding luma_predicted
luma_fits wide s site mb fit = record {
  at = λ k. mapped_at 256 _ (λ i. by_small (λ p v. inter_luma wide (length p.luma / wide) p.luma (pos (site.x + i % 16)) (pos (site.y + i / 16)) v) s (motion_of mb (i % 16 / 8) (i / 16 / 8))
      (λ p h v. luma_small wide (length p.luma / wide) p.luma (pos (site.x + i % 16)) (pos (site.y + i / 16)) v h.luma) fit) k (cases_lt k 256);
}

chroma_fits : (plane : Planes → List ℕ) (wide : ℕ) (s : Sources) (site : Site) (mb : MbRecord) → ((p : Planes) → PlanesFit p → AreBytes (plane p)) → SourcesFit s → AreBytes (chroma_predicted plane wide s site mb)
unfolding chroma_predicted
chroma_fits plane wide s site mb of fit = record {
  at = λ k. mapped_at 64 _ (λ i. by_small (λ p v. inter_chroma (wide / 2) (length (plane p) / (wide / 2)) (plane p) (pos (site.x / 2 + i % 8)) (pos (site.y / 2 + i / 8)) v) s (motion_of mb (i % 8 / 4) (i / 8 / 4))
      (λ p h v. chroma_small (wide / 2) (length (plane p) / (wide / 2)) (plane p) (pos (site.x / 2 + i % 8)) (pos (site.y / 2 + i / 8)) v (of p h)) fit) k (cases_lt k 64);
}

-- of a whole macroblock
pub predicted_fits : (wide : ℕ) (s : Sources) (site : Site) (mb : MbRecord) → SourcesFit s → PlanesFit (predicted_planes wide s site mb)
predicted_fits wide s site mb fit = record {
  luma = luma_fits wide s site mb fit;
  cb = chroma_fits (λ p. p.cb) wide s site mb (λ p h. h.cb) fit;
  cr = chroma_fits (λ p. p.cr) wide s site mb (λ p h. h.cr) fit;
}
