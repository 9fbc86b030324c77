-- The samples of a plane are bytes, and differences of them are small.
use Rattle.std.proofs.Common.{◌≡◌, ◌≤◌, ◌<◌, ◌+◌, ◌*◌, ◌++◌, ℕ, zero, suc, List, [], ◌∷◌, take, drop, get_or, subst, ap, ◌∙◌, arith, lit≤}
use Rattle.std.specs.Prelude.{ℤ, pos, negsuc, ◌+ℤ◌}
use Rattle.std.proofs.lemmas.List.{get_or-drop}
use Rattle.enc_tables.specs.declared.records.Vector.{Vector}
use Rattle.spec_basics.specs.Clip.{clip1}
use Rattle.spec_film.specs.Places.{sample_at}
use Rattle.spec_inter.specs.declared.Position.{Position}
use Rattle.spec_inter.specs.declared.Position.TheVariants.{Here, Right, Below, Across, AcrossBelow, Down, DownRight, Middle}
use Rattle.spec_inter.specs.Places.{whole, fraction}
use Rattle.spec_inter.specs.Taps.{mean}
use Rattle.spec_inter.specs.Luma.{position_of, first_of, second_of, about, inter_luma}
use Rattle.std.specs.Int.{abs_diff}
use Rattle.picture_planes.specs.declared.plane.Plane.{Plane}
use Rattle.picture_planes.specs.Margins.{buffer_width}
use Rattle.picture_planes.specs.Samples.{at, row_start, row_of, rows_to, samples_of}
use Rattle.spec_kernels.specs.Sums.{block_difference}
use Rattle.spec_kernels.proofs.SumLaws.{block-most}

abbrev pub AreBytes : List ℕ → Type 0
AreBytes xs = (k : ℕ) → get_or xs k 0 ≤ 255

append_bytes : (xs ys : List ℕ) → AreBytes xs → AreBytes ys → AreBytes (xs ++ ys)
append_bytes [] ys h g k = g k
append_bytes (x ∷ xs) ys h g zero = h zero
append_bytes (x ∷ xs) ys h g (suc k) = append_bytes xs ys (λ j. h (suc j)) g k

take_bytes : (n : ℕ) (xs : List ℕ) → AreBytes xs → AreBytes (take n xs)
take_bytes zero xs h k = lit≤ tt
take_bytes (suc n) [] h k = lit≤ tt
take_bytes (suc n) (x ∷ xs) h zero = h zero
take_bytes (suc n) (x ∷ xs) h (suc k) = take_bytes n xs (λ j. h (suc j)) k

drop_bytes : (n : ℕ) (xs : List ℕ) → AreBytes xs → AreBytes (drop n xs)
drop_bytes n xs h k = let e = get_or-drop n xs k 0 in let g = h (n + k) in omega (arith, e, g)

row_bytes : (p : Plane) (y : ℕ) → AreBytes p.bytes.items → AreBytes (row_of p y)
row_bytes p y h = take_bytes _ (drop (row_start p y) p.bytes.items) (drop_bytes (row_start p y) p.bytes.items h)

rows_bytes : (p : Plane) → AreBytes p.bytes.items → (n : ℕ) → AreBytes (rows_to p n)
unfolding rows_to
rows_bytes p h zero = λ k. lit≤ tt
rows_bytes p h (suc n) = append_bytes (rows_to p n) (row_of p n) (rows_bytes p h n) (row_bytes p n h)

-- where all bytes of the buffer, from its first one on, are bytes
whole_bytes : (p : Plane) (all : List ℕ) → all ≡ drop (0 * buffer_width p + 0) p.bytes.items → AreBytes all → AreBytes p.bytes.items
whole_bytes p all e h =
    let none : 0 * buffer_width p + 0 ≡ 0 = omega arith in
    subst (λ (xs : List ℕ). AreBytes xs) (e ∙ ap (λ (n : ℕ). drop n p.bytes.items) none) h

pub plane_bytes : (p : Plane) (all : List ℕ) → all ≡ drop (0 * buffer_width p + 0) p.bytes.items → AreBytes all → AreBytes (samples_of p)
unfolding samples_of
plane_bytes p all e h = rows_bytes p (whole_bytes p all e h) p.height

pub place_small : (p : Plane) (all : List ℕ) → all ≡ drop (0 * buffer_width p + 0) p.bytes.items → AreBytes all → (x y : ℕ) → at p x y ≤ 255
place_small p all e h x y = row_bytes p y (whole_bytes p all e h) x

-- ---- samples that are predicted

mean_small : (p q : ℕ) → p ≤ 255 → q ≤ 255 → mean p q ≤ 255
mean_small p q h g = omega arith

clip1_small : (z : ℤ) → clip1 z ≤ 255
clip1_small (pos n) = omega arith
clip1_small (negsuc n) = lit≤ tt

position_small : (near : ℕ → ℕ → ℕ) → ((k l : ℕ) → near k l ≤ 255) → (q : Position) → position_of near q ≤ 255
position_small near h Here = h 2 2
position_small near h Right = h 3 2
position_small near h Below = h 2 3
position_small near h Across = clip1_small _
position_small near h AcrossBelow = clip1_small _
position_small near h Down = clip1_small _
position_small near h DownRight = clip1_small _
position_small near h Middle = clip1_small _

sample_small : (width height : ℕ) (samples : List ℕ) (x y : ℤ) → AreBytes samples → sample_at width height samples x y ≤ 255
unfolding sample_at
sample_small width height samples x y h = h _

pub luma_small : (width height : ℕ) (samples : List ℕ) (x y : ℤ) (v : Vector) → AreBytes samples → inter_luma width height samples x y v ≤ 255
unfolding inter_luma
luma_small width height samples x y v h =
    let near : ℕ → ℕ → ℕ = about (sample_at width height samples) (x +ℤ whole 4 v.x) (y +ℤ whole 4 v.y) in
    let small : (k l : ℕ) → near k l ≤ 255 = λ k l. sample_small width height samples _ _ h in
    mean_small _ _ (position_small near small (first_of (fraction 4 v.x) (fraction 4 v.y))) (position_small near small (second_of (fraction 4 v.x) (fraction 4 v.y)))

-- the difference of two blocks of bytes
pub block_small : (f g : ℕ → ℕ → ℕ) (w h : ℕ) → w ≤ 16 → h ≤ 16 → ((i j : ℕ) → i < w → j < h → f i j ≤ 255) → ((i j : ℕ) → i < w → j < h → g i j ≤ 255) → block_difference f g w h ≤ 65280
block_small f g w h wide high a b =
    whole w h _ wide high (block-most (λ i j. abs_diff (f i j) (g i j)) 255 w h (λ i j p q. (let x = a i j p q in let y = b i j p q in omega (arith, x, y))))
  where
    area : (w h : ℕ) → w ≤ 16 → h ≤ 16 → 255 * w * h ≤ 65280
    area w h wide high = grind arith

    whole : (w h s : ℕ) → w ≤ 16 → h ≤ 16 → s ≤ 255 * w * h → s ≤ 65280
    whole w h s wide high m = let n = area w h wide high in omega arith
