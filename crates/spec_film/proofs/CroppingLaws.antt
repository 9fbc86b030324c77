-- What is shown of a padded picture is the picture.
use Rattle.std.proofs.Common.{ℕ, zero, suc, ◌+◌, ◌-◌, ◌*◌, ◌/◌, ◌≡◌, ◌≤◌, ◌<◌, ◌⊎◌, inl, inr, List, ◌++◌, length, take, drop, get_or, replicate, sym, ap, ap₂, ◌∙◌, arith, append_assoc, take-add}
use Rattle.std.specs.List.{range_with_len, flat_map}
use Rattle.std.proofs.lemmas.Bool.{cases_lt}
use Rattle.std.proofs.lemmas.Grind.{common_steps}
use native.Mathlib.Nat.{mul-le-mul_right}
use Rattle.spec_basics.specs.Sizes.{in_macroblocks}
use Rattle.spec_film.specs.declared.FilmHead.{FilmHead}
use Rattle.spec_film.specs.Padding.{padded_size, row_at, widened, widened_rows, repeated, padded_plane}
use Rattle.spec_film.specs.Films.{Planes, luma_count, chroma_count, planes_count, planes_at, padded}
use Rattle.spec_film.specs.Cropping.{cropped_plane, shown, HasOwnSizes}
use Rattle.spec_film.proofs.PaddingLaws.{widened_length, rows_length}

-- the second of three parts
second : (A B R : List ℕ) (i w : ℕ) → length A ≡ i → length B ≡ w → take w (drop i (A ++ (B ++ R))) ≡ B
second A B R i w a b = grind (arith, common_steps)

front_within : (n : ℕ) (xs : List ℕ) → length (take n xs) ≤ n
front_within n xs = grind (arith, common_steps)

row_in : (width wide h y : ℕ) (xs R : List ℕ) → width ≤ wide → y < h → take wide (drop (y * wide) (widened_rows width wide h xs ++ R)) ≡ widened wide (row_at width y xs)
unfolding widened_rows
row_in width wide zero y xs R narrow below = absurd (omega arith)
row_in width wide (suc h) y xs R narrow below =
    ap (λ (l : List ℕ). take wide (drop (y * wide) l)) (append_assoc (widened_rows width wide h xs) (widened wide (row_at width h xs)) R)
    ∙ by (λ k. row_in width wide h y xs (widened wide (row_at width h xs) ++ R) narrow k) (cases_lt y h)
  where
    by : (y < h → take wide (drop (y * wide) (widened_rows width wide h xs ++ (widened wide (row_at width h xs) ++ R))) ≡ widened wide (row_at width y xs)) → (y < h) ⊎ (h ≤ y)
        → take wide (drop (y * wide) (widened_rows width wide h xs ++ (widened wide (row_at width h xs) ++ R))) ≡ widened wide (row_at width y xs)
    by ih (inl early) = ih early
    by ih (inr late) =
        let last : y ≡ h = omega arith in
        ap (λ (k : ℕ). take wide (drop (k * wide) (widened_rows width wide h xs ++ (widened wide (row_at width h xs) ++ R)))) last
        ∙ second (widened_rows width wide h xs) (widened wide (row_at width h xs)) R (h * wide) wide (rows_length width wide h xs narrow) (widened_length wide (row_at width h xs) (omega (arith, front_within width (drop (h * width) xs), narrow)))
        ∙ ap (λ (k : ℕ). widened wide (row_at width k xs)) (sym last)

sum_times : (a b w : ℕ) → (a + b) * w ≡ a * w + b * w
sum_times a b w = grind arith

-- a row of the padded plane begins with the row
row_back : (width height wide high y : ℕ) (xs : List ℕ) → width ≤ wide → y < height → length xs ≡ height * width → take width (drop (y * wide) (padded_plane width height wide high xs)) ≡ row_at width y xs
unfolding padded_plane
row_back width height wide high y xs narrow below size =
    let P : List ℕ = widened_rows width wide height xs ++ repeated (high - height) (widened wide (row_at width (height - 1) xs)) in
    let room : (y + 1) * width ≤ height * width = mul-le-mul_right width (omega arith) in
    let long : length (row_at width y xs) ≡ width = full (y * width) width xs (omega (arith, room, size, sum_times y 1 width)) in
    sym (shorter width wide (drop (y * wide) (widened_rows width wide height xs ++ repeated (high - height) (widened wide (row_at width (height - 1) xs)))) narrow)
    ∙ ap (λ (l : List ℕ). take width l) (row_in width wide height y xs (repeated (high - height) (widened wide (row_at width (height - 1) xs))) narrow below)
    ∙ front (row_at width y xs) (replicate (wide - length (row_at width y xs)) (get_or (row_at width y xs) (length (row_at width y xs) - 1) 0)) width long
  where
    shorter : (n m : ℕ) (zs : List ℕ) → n ≤ m → take n (take m zs) ≡ take n zs
    shorter n m zs h = grind (arith, common_steps)

    full : (i n : ℕ) (zs : List ℕ) → i + n ≤ length zs → length (take n (drop i zs)) ≡ n
    full i n zs h = grind (arith, common_steps)

    front : (A B : List ℕ) (n : ℕ) → length A ≡ n → take n (A ++ B) ≡ A
    front A B n e = grind (arith, common_steps)

-- the cropped plane is the plane
pub plane_back : (width height wide high : ℕ) (xs : List ℕ) → width ≤ wide → length xs ≡ height * width → cropped_plane wide width height (padded_plane width height wide high xs) ≡ xs
unfolding cropped_plane
plane_back width height wide high xs narrow size = go height 0 (omega arith) ∙ all (height * width) xs size
  where
    dropped : (i j : ℕ) (zs : List ℕ) → drop j (drop i zs) ≡ drop (i + j) zs
    dropped i j zs = grind (arith, common_steps)

    next : (a w : ℕ) → a * w + w ≡ (a + 1) * w
    next a w = grind arith

    more : (n w : ℕ) → w + n * w ≡ suc n * w
    more n w = grind arith

    all : (n : ℕ) (zs : List ℕ) → length zs ≡ n → take n (drop (0 * width) zs) ≡ zs
    all n zs e = ap (λ (k : ℕ). take n (drop k zs)) (none width) ∙ whole n zs e
      where
        none : (w : ℕ) → 0 * w ≡ 0
        none w = grind arith

        whole : (n : ℕ) (zs : List ℕ) → length zs ≡ n → take n zs ≡ zs
        whole n zs e = grind (arith, common_steps)

    go : (n a : ℕ) → a + n ≤ height → flat_map (λ y. take width (drop (y * wide) (padded_plane width height wide high xs))) (range_with_len a n) ≡ take (n * width) (drop (a * width) xs)
    go zero a h = ap (λ (k : ℕ). take k (drop (a * width) xs)) (none width)
      where
        none : (w : ℕ) → 0 ≡ 0 * w
        none w = grind arith
    go (suc n) a h =
        ap₂ (λ (r rest : List ℕ). r ++ rest) (row_back width height wide high a xs narrow (omega arith) size) (go n (a + 1) (omega arith))
        ∙ ap (λ (l : List ℕ). take width (drop (a * width) xs) ++ take (n * width) l) (ap (λ (k : ℕ). drop k xs) (sym (next a width)) ∙ sym (dropped (a * width) width xs))
        ∙ sym (take-add width (n * width) (drop (a * width) xs)) ∙ ap (λ (k : ℕ). take k (drop (a * width) xs)) (more n width)

pub shown_padded : (head : FilmHead) (p : Planes) → HasOwnSizes head p → shown head (padded head p) ≡ p
shown_padded head p is =
    same _ _ _
    (ap (λ (w : ℕ). cropped_plane w head.width head.height (padded head p).luma) (sixteen (in_macroblocks head.width)) ∙ plane_back head.width head.height (padded_size head.width) (padded_size head.height) p.luma (rounds head.width) (is.luma ∙ turned head.width head.height))
    (ap (λ (w : ℕ). cropped_plane w (head.width / 2) (head.height / 2) (padded head p).cb) (eight (in_macroblocks head.width)) ∙ plane_back (head.width / 2) (head.height / 2) (padded_size head.width / 2) (padded_size head.height / 2) p.cb (halves head.width) (is.cb ∙ turned (head.width / 2) (head.height / 2)))
    (ap (λ (w : ℕ). cropped_plane w (head.width / 2) (head.height / 2) (padded head p).cr) (eight (in_macroblocks head.width)) ∙ plane_back (head.width / 2) (head.height / 2) (padded_size head.width / 2) (padded_size head.height / 2) p.cr (halves head.width) (is.cr ∙ turned (head.width / 2) (head.height / 2)))
  where
    sixteen : (n : ℕ) → 16 * n ≡ n * 16
    sixteen n = omega arith

    eight : (n : ℕ) → 8 * n ≡ n * 16 / 2
    eight n = omega arith

    rounds : (n : ℕ) → n ≤ padded_size n
    rounds n = omega arith

    halves : (n : ℕ) → n / 2 ≤ padded_size n / 2
    halves n = omega arith

    turned : (m n : ℕ) → m * n ≡ n * m
    turned m n = grind arith

    same : (y u v : List ℕ) → y ≡ p.luma → u ≡ p.cb → v ≡ p.cr → (let q : Planes = record { luma = y; cb = u; cr = v } in q ≡ p)
    same y u v a b c =
        ap (λ (l : List ℕ). let r : Planes = record { luma = l; cb = u; cr = v } in r) a
        ∙ ap (λ (l : List ℕ). let r : Planes = record { luma = p.luma; cb = l; cr = v } in r) b
        ∙ ap (λ (l : List ℕ). let r : Planes = record { luma = p.luma; cb = p.cb; cr = l } in r) c

-- where a picture's bytes are all there, its planes have the head's own sizes
pub own_sizes : (head : FilmHead) (bytes : List ℕ) → planes_count head ≤ length bytes → HasOwnSizes head (planes_at head bytes)
own_sizes head bytes there =
    record {
      luma = taken 0 (luma_count head) bytes (omega (arith, there));
      cb = taken (luma_count head) (chroma_count head) bytes (omega (arith, there));
      cr = taken (luma_count head + chroma_count head) (chroma_count head) bytes there;
    }
  where
    taken : (i n : ℕ) (xs : List ℕ) → i + n ≤ length xs → length (take n (drop i xs)) ≡ n
    taken i n xs h = grind (arith, common_steps)

pub bytes_back : (head : FilmHead) (bytes : List ℕ) → planes_count head ≤ length bytes → shown head (padded head (planes_at head bytes)) ≡ planes_at head bytes
bytes_back head bytes there = shown_padded head (planes_at head bytes) (own_sizes head bytes there)
