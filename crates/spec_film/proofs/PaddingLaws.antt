-- What follows from the definition of padding.
use Rattle.std.proofs.Common.{ℕ, zero, suc, ◌+◌, ◌-◌, ◌*◌, ◌≡◌, ◌≤◌, ◌<◌, List, ◌++◌, length, take, drop, refl, sym, ap, ap₂, ◌∙◌, arith, append_assoc, append-nil, length-append}
use Rattle.std.proofs.lemmas.Grind.{common_steps}
use Rattle.std.proofs.lemmas.List.{drop-take}
use Rattle.spec_film.specs.Padding.{row_at, widened, widened_rows, repeated, padded_plane}

front_within : (n : ℕ) (xs : List ℕ) → length (take n xs) ≤ n
front_within n xs = grind (arith, common_steps)

pub widened_length : (wide : ℕ) (row : List ℕ) → length row ≤ wide → length (widened wide row) ≡ wide
widened_length wide row h = grind (arith, common_steps)

row_within : (width y : ℕ) (xs : List ℕ) → length (row_at width y xs) ≤ width
row_within width y xs = front_within width (drop (y * width) xs)

suc_times : (n w : ℕ) → n * w + w ≡ suc n * w
suc_times n w = grind arith

no_times : (w : ℕ) → 0 ≡ 0 * w
no_times w = grind arith

pub rows_length : (width wide n : ℕ) (xs : List ℕ) → width ≤ wide → length (widened_rows width wide n xs) ≡ n * wide
unfolding widened_rows
rows_length width wide zero xs h = no_times wide
rows_length width wide (suc n) xs h =
    length-append (widened_rows width wide n xs) (widened wide (row_at width n xs))
    ∙ ap₂ (λ (a b : ℕ). a + b) (rows_length width wide n xs h) (widened_length wide (row_at width n xs) (omega (arith, row_within width n xs, h)))
    ∙ suc_times n wide

pub repeated_length : (n : ℕ) (row : List ℕ) → length (repeated n row) ≡ n * length row
unfolding repeated
repeated_length zero row = no_times (length row)
repeated_length (suc n) row = length-append (repeated n row) row ∙ ap (λ (k : ℕ). k + length row) (repeated_length n row) ∙ suc_times n (length row)

sum_times : (a b w : ℕ) → a * w + b * w ≡ (a + b) * w
sum_times a b w = grind arith

pub padded_length : (width height wide high : ℕ) (xs : List ℕ) → width ≤ wide → height ≤ high → length (padded_plane width height wide high xs) ≡ high * wide
unfolding padded_plane
padded_length width height wide high xs h k =
    let last : List ℕ = widened wide (row_at width (height - 1) xs) in
    let long : length (widened wide (row_at width (height - 1) xs)) ≡ wide = widened_length wide (row_at width (height - 1) xs) (omega (arith, row_within width (height - 1) xs, h)) in
    length-append (widened_rows width wide height xs) (repeated (high - height) (widened wide (row_at width (height - 1) xs)))
    ∙ ap₂ (λ (a b : ℕ). a + b) (rows_length width wide height xs h) (repeated_length (high - height) (widened wide (row_at width (height - 1) xs)) ∙ ap (λ (n : ℕ). (high - height) * n) long)
    ∙ sum_times height (high - height) wide ∙ ap (λ (n : ℕ). n * wide) (whole height high k)
  where
    whole : (a b : ℕ) → a ≤ b → a + (b - a) ≡ b
    whole a b h = omega arith

-- rows behind others
pub rows_then : (width wide a b : ℕ) (xs : List ℕ) → widened_rows width wide (a + b) xs ≡ widened_rows width wide a xs ++ widened_rows width wide b (drop (a * width) xs)
unfolding widened_rows
rows_then width wide a zero xs = ap (λ (n : ℕ). widened_rows width wide n xs) (none a) ∙ sym (append-nil (widened_rows width wide a xs))
  where
    none : (a : ℕ) → a + 0 ≡ a
    none a = omega arith
rows_then width wide a (suc b) xs =
    ap (λ (n : ℕ). widened_rows width wide n xs) (more a b)
    ∙ ap₂ (λ (l r : List ℕ). l ++ widened wide (take width r)) (rows_then width wide a b xs) (behind a b width xs)
    ∙ append_assoc (widened_rows width wide a xs) (widened_rows width wide b (drop (a * width) xs)) (widened wide (row_at width b (drop (a * width) xs)))
  where
    more : (a b : ℕ) → a + suc b ≡ suc (a + b)
    more a b = omega arith

    dropped : (i j : ℕ) (xs : List ℕ) → drop j (drop i xs) ≡ drop (i + j) xs
    dropped i j xs = grind (arith, common_steps)

    times : (a b w : ℕ) → (a + b) * w ≡ a * w + b * w
    times a b w = grind arith

    behind : (a b w : ℕ) (xs : List ℕ) → drop ((a + b) * w) xs ≡ drop (b * w) (drop (a * w) xs)
    behind a b w xs = ap (λ (n : ℕ). drop n xs) (times a b w) ∙ sym (dropped (a * w) (b * w) xs)

-- rows of a front that has them all
row_of_front : (width n all : ℕ) (xs : List ℕ) → n * width + width ≤ all → row_at width n (take all xs) ≡ row_at width n xs
row_of_front width n all xs h = front (n * width) width all xs h
  where
    front : (i w all : ℕ) (xs : List ℕ) → i + w ≤ all → take w (drop i (take all xs)) ≡ take w (drop i xs)
    front i w all xs h =
        let sum : all ≡ i + (all - i) = omega arith in
        ap (λ (m : ℕ). take w (drop i (take m xs))) sum ∙ ap (λ (l : List ℕ). take w l) (drop-take i (all - i) xs) ∙ shorter w (all - i) (drop i xs) (omega arith)
      where
        shorter : (n m : ℕ) (zs : List ℕ) → n ≤ m → take n (take m zs) ≡ take n zs
        shorter n m zs h = grind (arith, common_steps)

pub rows_of_front : (width wide n all : ℕ) (xs : List ℕ) → n * width ≤ all → widened_rows width wide n (take all xs) ≡ widened_rows width wide n xs
unfolding widened_rows
rows_of_front width wide zero all xs h = refl
rows_of_front width wide (suc n) all xs h =
    ap₂ (λ (l r : List ℕ). l ++ widened wide r) (rows_of_front width wide n all xs (omega (arith, h, suc_times n width))) (row_of_front width n all xs (omega (arith, h, suc_times n width)))

pub padded_of_front : (width height wide high all : ℕ) (xs : List ℕ) → 0 < height → height * width ≤ all → padded_plane width height wide high (take all xs) ≡ padded_plane width height wide high xs
unfolding padded_plane
padded_of_front width height wide high all xs some h =
    ap₂ (λ (l r : List ℕ). l ++ repeated (high - height) (widened wide r)) (rows_of_front width wide height all xs h)
    (row_of_front width (height - 1) all xs (omega (arith, h, suc_times (height - 1) width, ap (λ (n : ℕ). n * width) (before height some))))
  where
    before : (n : ℕ) → 0 < n → suc (n - 1) ≡ n
    before n h = omega arith
