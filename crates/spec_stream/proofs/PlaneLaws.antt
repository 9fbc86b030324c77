-- The picture that a picture's macroblocks make is that picture.
use Rattle.std.proofs.Common.{ℕ, zero, suc, ◌+◌, ◌-◌, ◌*◌, ◌/◌, ◌%◌, ◌≡◌, ◌≤◌, ◌<◌, List, [], ◌∷◌, ◌++◌, length, take, drop, get_or, refl, ap, sym, ◌∙◌, arith, subst, inl, inr, ◌⊎◌, length-append, length-drop, add-one, zero-add, mul-pos, lit<}
use Rattle.std.proofs.Math.Nat.{eq-or-lt_of_le, mul_comm, div-lt_iff_lt-mul, mod-lt, mod-eq_of_lt, div-add-mod, mul-add-mod_self_right, mul-le-mul_left, mul-le-mul_right}
use Rattle.std.proofs.lemmas.Nat.{mul-add-lt, div-mul-add}
use Rattle.std.specs.List.{flat_map, range_with_len}
use Rattle.std.specs.Prelude.{Bool, true, false, nat_lt, map}
use Rattle.std.specs.List.{All}
use Rattle.std.proofs.lemmas.List.Elements.{All-from_get_or, All-get_or}
use Rattle.std.proofs.lemmas.Bool.{ltb-true, ltb-false}
use Rattle.std.proofs.Math.ListN.{get_or-eq_default}
use Rattle.spec_bits.specs.Bits.{IsByte}
use Rattle.std.proofs.lemmas.List.FromFn.{length-map-range_with_len, fill_by_all, get_or-map-range_with_len}
use Rattle.std.proofs.lemmas.Grind.{common_steps}
use Rattle.spec_film.specs.Films.{Planes}
use Rattle.spec_stream.specs.Stored.{block_at, macroblock_samples, macroblocks_of}
use Rattle.spec_stream.specs.Samples.{sample_at, plane_from, picture_from}
use Rattle.spec_film.specs.Cropping.{cropped_plane}
use Rattle.spec_stream.proofs.StoredLaws.{block_at-more, block_at-none}

-- the block lies in the plane: each of its rows has all its columns
pub length-block_at : (width columns rows x y : ℕ) (samples : List ℕ) → x + columns ≤ width → (y + rows) * width ≤ length samples → length (block_at width columns rows x y samples) ≡ rows * columns
length-block_at width columns zero x y samples inside long = let e : 0 ≡ 0 * columns = omega arith in ap length (block_at-none width columns x y samples) ∙ e
length-block_at width columns (suc rows) x y samples inside long =
    let less : (y + rows) * width + width ≤ length samples = subst (λ n. n ≤ length samples) (one_more y rows width) long in
    ap (λ n. length (block_at width columns n x y samples)) (sym (add-one rows))
    ∙ ap length (block_at-more width columns rows x y samples)
    ∙ length-append (block_at width columns rows x y samples) (take columns (drop ((y + rows) * width + x) samples))
    ∙ ap (λ n. n + length (take columns (drop ((y + rows) * width + x) samples))) (length-block_at width columns rows x y samples inside (omega arith))
    ∙ ap (λ n. rows * columns + n) (row_len columns ((y + rows) * width + x) samples (omega arith))
    ∙ sums rows columns
  where
    one_more : (y rows width : ℕ) → (y + suc rows) * width ≡ (y + rows) * width + width
    one_more y rows width = grind arith

    row_len : (n i : ℕ) (xs : List ℕ) → i + n ≤ length xs → length (take n (drop i xs)) ≡ n
    row_len n i xs h = grind (arith, common_steps)

    sums : (rows columns : ℕ) → rows * columns + columns ≡ suc rows * columns
    sums rows columns = grind arith

get_or-first : (xs ys : List ℕ) (i : ℕ) → i < length xs → get_or (xs ++ ys) i 0 ≡ get_or xs i 0
get_or-first xs ys i h = grind (arith, common_steps)

get_or-second : (xs ys : List ℕ) (i j : ℕ) → j ≡ length xs + i → get_or (xs ++ ys) j 0 ≡ get_or ys i 0
get_or-second xs ys i j h = grind (arith, common_steps)

get_or-part : (n i c : ℕ) (xs : List ℕ) → c < n → get_or (take n (drop i xs)) c 0 ≡ get_or xs (i + c) 0
get_or-part n i c xs h = grind (arith, common_steps)

-- the sample in a row and a column of a block
get_or-block_at : (width columns rows x y r c : ℕ) (samples : List ℕ) → x + columns ≤ width → (y + rows) * width ≤ length samples → r < rows → c < columns
    → get_or (block_at width columns rows x y samples) (r * columns + c) 0 ≡ get_or samples ((y + r) * width + x + c) 0
get_or-block_at width columns zero x y r c samples inside long below small = absurd (omega arith)
get_or-block_at width columns (suc rows) x y r c samples inside long below small =
    ap (λ n. get_or (block_at width columns n x y samples) (r * columns + c) 0) (sym (add-one rows))
    ∙ ap (λ xs. get_or xs (r * columns + c) 0) (block_at-more width columns rows x y samples)
    ∙ go (λ less_row. get_or-block_at width columns rows x y r c samples inside less less_row small) (eq-or-lt_of_le (below_suc r rows below))
  where
    before : List ℕ
    before = block_at width columns rows x y samples

    last : List ℕ
    last = take columns (drop ((y + rows) * width + x) samples)

    below_suc : (r rows : ℕ) → r < suc rows → r ≤ rows
    below_suc r rows h = omega arith

    one_more : (y rows width : ℕ) → (y + suc rows) * width ≡ (y + rows) * width + width
    one_more y rows width = grind arith

    less : (y + rows) * width ≤ length samples
    less = let l = subst (λ n. n ≤ length samples) (one_more y rows width) long in omega arith

    len : length before ≡ rows * columns
    len = length-block_at width columns rows x y samples inside less

    go : (r < rows → get_or before (r * columns + c) 0 ≡ get_or samples ((y + r) * width + x + c) 0) → (r ≡ rows) ⊎ (r < rows) → get_or (before ++ last) (r * columns + c) 0 ≡ get_or samples ((y + r) * width + x + c) 0
    go earlier (inl same) =
        get_or-second before last c (r * columns + c) (ap (λ n. n * columns + c) same ∙ ap (λ n. n + c) (sym len))
        ∙ get_or-part columns ((y + rows) * width + x) c samples small
        ∙ ap (λ n. get_or samples ((y + n) * width + x + c) 0) (sym same)
    go earlier (inr less_row) =
        get_or-first before last (r * columns + c) (subst (λ n. r * columns + c < n) (mul_comm columns rows ∙ sym len) (mul-add-lt r columns c rows less_row small))
        ∙ earlier less_row

get_or-macroblocks : (across down k : ℕ) (p : Planes) → k < across * down → get_or (macroblocks_of across down p) k [] ≡ macroblock_samples across p k
unfolding macroblocks_of
get_or-macroblocks across down k p below = get_or-map-range_with_len (macroblock_samples across p) 0 (across * down) k k [] below (zero-add k)

-- the sizes of a picture's planes
pub record HasPlanes (across down : ℕ) (p : Planes) : Type 0 where
  pub luma : length p.luma ≡ 16 * across * (16 * down)
  pub cb : length p.cb ≡ 8 * across * (8 * down)
  pub cr : length p.cr ≡ 8 * across * (8 * down)

-- in a plane of rows of size * across samples, place i is column x of row y; the block there is column b of row r of blocks, and the place in it column c of row d
pub record InBlock (size across down i : ℕ) : Type 0 where
  pub column : (i % (size * across)) / size < across
  pub row : (i / (size * across)) / size < down
  pub whole : (i / (size * across)) * (size * across) + i % (size * across) ≡ i

in_block : (size across down i : ℕ) → 0 < size → 0 < across → i < size * across * (size * down) → InBlock size across down i
in_block size across down i some wide below =
    let w = size * across in
    let w_some : 0 < w = mul-pos some wide in
    let x_below : i % w < across * size = subst (λ n. i % w < n) (mul_comm size across) (mod-lt i w_some) in
    let y_below : i / w < down * size = subst (λ n. i / w < n) (mul_comm size down) ((div-lt_iff_lt-mul w_some).1 (subst (λ n. i < n) (mul_comm w (size * down)) below)) in
    record {
      column = (div-lt_iff_lt-mul some).1 x_below;
      row = (div-lt_iff_lt-mul some).1 y_below;
      whole = ap (λ n. n + i % w) (mul_comm (i / w) w) ∙ div-add-mod i w;
    }

-- the samples of the blocks of a plane are the samples at their places
samples_at : (size across down first : ℕ) (samples : List ℕ) (macroblocks : List (List ℕ)) → 0 < size → 0 < across → length samples ≡ size * across * (size * down)
    → ((k j : ℕ) → k < across * down → j < size * size
    → get_or (get_or macroblocks k []) (first + j) 0 ≡ get_or (block_at (size * across) size size (size * (k % across)) (size * (k / across)) samples) j 0)
    → (i : ℕ) → i < size * across * (size * down) → get_or samples i 0 ≡ sample_at across size first macroblocks i
samples_at size across down first samples macroblocks some wide long each i below = sym (each k (d * size + c) k_below j_below ∙ at_place)
  where
    w : ℕ
    w = size * across

    x : ℕ
    x = i % w

    y : ℕ
    y = i / w

    b : ℕ
    b = x / size

    r : ℕ
    r = y / size

    c : ℕ
    c = x % size

    d : ℕ
    d = y % size

    k : ℕ
    k = r * across + b

    inside : InBlock size across down i
    inside = in_block size across down i some wide below

    k_below : k < across * down
    k_below = mul-add-lt r across b down inside.row inside.column

    j_below : d * size + c < size * size
    j_below = mul-add-lt d size c size (mod-lt y some) (mod-lt x some)

    column_is : k % across ≡ b
    column_is = mul-add-mod_self_right r across b ∙ mod-eq_of_lt inside.column

    row_is : k / across ≡ r
    row_is = div-mul-add r across b inside.column

    split : (a b : ℕ) → a * (b + 1) ≡ a * b + a
    split a b = grind arith

    in_row : size * b + size ≤ w
    in_row = let h : b + 1 ≤ across = omega (arith, inside.column) in let m : size * (b + 1) ≤ size * across = mul-le-mul_left size h in omega (arith, m, split size b)

    in_plane : (size * r + size) * w ≤ length samples
    in_plane =
        let h : r + 1 ≤ down = omega (arith, inside.row) in
        let m : size * (r + 1) ≤ size * down = mul-le-mul_left size h in
        let n : size * r + size ≤ size * down = omega (arith, m, split size r) in
        subst (λ l. (size * r + size) * w ≤ l) (mul_comm (size * down) w ∙ sym long) (mul-le-mul_right w n)

    there : (size * r + d) * w + size * b + c ≡ i
    there =
        let p : size * r + d ≡ y = div-add-mod y size in
        let q : size * b + c ≡ x = div-add-mod x size in
        sums ((size * r + d) * w) (size * b) c ∙ ap (λ n. n * w + (size * b + c)) p ∙ ap (λ n. y * w + n) q ∙ inside.whole
      where
        sums : (u v z : ℕ) → u + v + z ≡ u + (v + z)
        sums u v z = omega arith

    at_place : get_or (block_at w size size (size * (k % across)) (size * (k / across)) samples) (d * size + c) 0 ≡ get_or samples i 0
    at_place =
        ap (λ n. get_or (block_at w size size (size * n) (size * (k / across)) samples) (d * size + c) 0) column_is
        ∙ ap (λ n. get_or (block_at w size size (size * b) (size * n) samples) (d * size + c) 0) row_is
        ∙ get_or-block_at w size size (size * b) (size * r) d c samples in_row in_plane (mod-lt y some) (mod-lt x some)
        ∙ ap (λ n. get_or samples n 0) there

-- the plane that the blocks make
plane_is : (size across down first : ℕ) (samples : List ℕ) (macroblocks : List (List ℕ)) → 0 < size → 0 < across → length samples ≡ size * across * (size * down)
    → ((k j : ℕ) → k < across * down → j < size * size
    → get_or (get_or macroblocks k []) (first + j) 0 ≡ get_or (block_at (size * across) size size (size * (k % across)) (size * (k / across)) samples) j 0)
    → plane_from across down size first macroblocks ≡ samples
unfolding plane_from
plane_is size across down first samples macroblocks some wide long each =
    sym (fill_by_all (sample_at across size first macroblocks) samples (size * across * (size * down)) 0 long
    (λ i below. samples_at size across down first samples macroblocks some wide long each i below))

-- a block of macroblock k lies in its plane
pub block_long : (size across down k : ℕ) (samples : List ℕ) → 0 < across → length samples ≡ size * across * (size * down) → k < across * down
    → length (block_at (size * across) size size (size * (k % across)) (size * (k / across)) samples) ≡ size * size
block_long size across down k samples wide long below =
    length-block_at (size * across) size size (size * (k % across)) (size * (k / across)) samples in_row in_plane
  where
    split : (a b : ℕ) → a * (b + 1) ≡ a * b + a
    split a b = grind arith

    in_row : size * (k % across) + size ≤ size * across
    in_row = let h : k % across + 1 ≤ across = omega (arith, mod-lt k wide) in let m : size * (k % across + 1) ≤ size * across = mul-le-mul_left size h in omega (arith, m, split size (k % across))

    in_plane : (size * (k / across) + size) * (size * across) ≤ length samples
    in_plane =
        let g : k / across < down = (div-lt_iff_lt-mul wide).1 (subst (λ n. k < n) (mul_comm across down) below) in
        let h : k / across + 1 ≤ down = omega (arith, g) in
        let m : size * (k / across + 1) ≤ size * down = mul-le-mul_left size h in
        let n : size * (k / across) + size ≤ size * down = omega (arith, m, split size (k / across)) in
        subst (λ l. (size * (k / across) + size) * (size * across) ≤ l) (mul_comm (size * down) (size * across) ∙ sym long) (mul-le-mul_right (size * across) n)

-- the parts of a macroblock's samples
in_first : (xs ys zs : List ℕ) (j : ℕ) → j < length xs → get_or (xs ++ (ys ++ zs)) (0 + j) 0 ≡ get_or xs j 0
in_first xs ys zs j h = ap (λ n. get_or (xs ++ (ys ++ zs)) n 0) (zero-add j) ∙ get_or-first xs (ys ++ zs) j h

in_second : (xs ys zs : List ℕ) (n j : ℕ) → length xs ≡ n → j < length ys → get_or (xs ++ (ys ++ zs)) (n + j) 0 ≡ get_or ys j 0
in_second xs ys zs n j len h = get_or-second xs (ys ++ zs) j (n + j) (ap (λ m. m + j) (sym len)) ∙ get_or-first ys zs j h

in_third : (xs ys zs : List ℕ) (n m j : ℕ) → length xs ≡ n → length ys ≡ m → get_or (xs ++ (ys ++ zs)) (n + m + j) 0 ≡ get_or zs j 0
in_third xs ys zs n m j len len' =
    get_or-second xs (ys ++ zs) (m + j) (n + m + j) (sums n m j ∙ ap (λ l. l + (m + j)) (sym len)) ∙ get_or-second ys zs j (m + j) (ap (λ l. l + j) (sym len'))
  where
    sums : (n m j : ℕ) → n + m + j ≡ n + (m + j)
    sums n m j = omega arith

-- the picture that the macroblocks of a picture make is that picture (clause 8.3.5)
pub picture_is : (across down : ℕ) (p : Planes) → 0 < across → HasPlanes across down p → picture_from across down (macroblocks_of across down p) ≡ p
unfolding macroblock_samples
picture_is across down p wide sizes = same luma cb cr
  where
    ms : List (List ℕ)
    ms = macroblocks_of across down p

    y : ℕ → List ℕ
    y k = block_at (16 * across) 16 16 (16 * (k % across)) (16 * (k / across)) p.luma

    u : ℕ → List ℕ
    u k = block_at (8 * across) 8 8 (8 * (k % across)) (8 * (k / across)) p.cb

    v : ℕ → List ℕ
    v k = block_at (8 * across) 8 8 (8 * (k % across)) (8 * (k / across)) p.cr

    y_long : (k : ℕ) → k < across * down → length (y k) ≡ 256
    y_long k below = block_long 16 across down k p.luma wide sizes.luma below

    u_long : (k : ℕ) → k < across * down → length (u k) ≡ 64
    u_long k below = block_long 8 across down k p.cb wide sizes.cb below

    at_macroblock : (k i : ℕ) → k < across * down → get_or (get_or ms k []) i 0 ≡ get_or (y k ++ (u k ++ v k)) i 0
    at_macroblock k i below = ap (λ xs. get_or xs i 0) (get_or-macroblocks across down k p below)

    luma : plane_from across down 16 0 ms ≡ p.luma
    luma = plane_is 16 across down 0 p.luma ms (lit< tt) wide sizes.luma
        (λ k j below small. at_macroblock k (0 + j) below ∙ in_first (y k) (u k) (v k) j (subst (λ n. j < n) (sym (y_long k below)) small))

    cb : plane_from across down 8 256 ms ≡ p.cb
    cb = plane_is 8 across down 256 p.cb ms (lit< tt) wide sizes.cb
        (λ k j below small. at_macroblock k (256 + j) below ∙ in_second (y k) (u k) (v k) 256 j (y_long k below) (subst (λ n. j < n) (sym (u_long k below)) small))

    cr : plane_from across down 8 320 ms ≡ p.cr
    cr = plane_is 8 across down 320 p.cr ms (lit< tt) wide sizes.cr
        (λ k j below small. at_macroblock k (320 + j) below ∙ in_third (y k) (u k) (v k) 256 64 j (y_long k below) (u_long k below))

    same : plane_from across down 16 0 ms ≡ p.luma → plane_from across down 8 256 ms ≡ p.cb → plane_from across down 8 320 ms ≡ p.cr → picture_from across down ms ≡ p
    same a b c =
        ap (λ (l : List ℕ). let r : Planes = record { luma = l; cb = plane_from across down 8 256 ms; cr = plane_from across down 8 320 ms } in r) a
        ∙ ap (λ (l : List ℕ). let r : Planes = record { luma = p.luma; cb = l; cr = plane_from across down 8 320 ms } in r) b
        ∙ ap (λ (l : List ℕ). let r : Planes = record { luma = p.luma; cb = p.cb; cr = l } in r) c

-- all rows and all columns of a plane are the plane
pub cropped_all : (width rows : ℕ) (samples : List ℕ) → length samples ≡ rows * width → cropped_plane width width rows samples ≡ samples
unfolding cropped_plane
cropped_all width rows samples long = go rows 0 samples (zero-start samples) long
  where
    zero-start : (samples : List ℕ) → samples ≡ drop (0 * width) samples
    zero-start samples = let e : 0 ≡ 0 * width = omega arith in ap (λ n. drop n samples) e

    row : ℕ → List ℕ
    row y = take width (drop (y * width) samples)

    go : (n a : ℕ) (rest : List ℕ) → rest ≡ drop (a * width) samples → length rest ≡ n * width → flat_map row (range_with_len a n) ≡ rest
    go zero a rest is len = let e : length rest ≡ 0 = omega (arith, len) in sym (empty rest e)
      where
        empty : (xs : List ℕ) → length xs ≡ 0 → xs ≡ []
        empty [] e = refl
        empty (x ∷ xs) e = absurd (omega arith)
    go (suc n) a rest is len =
        ap (λ xs. take width xs ++ flat_map row (range_with_len (a + 1) n)) (sym is)
        ∙ ap (λ xs. take width rest ++ xs) (go n (a + 1) (drop width rest) (ap (drop width) is ∙ dropped a) (length-drop width rest ∙ shorter n (length rest) width len))
        ∙ whole rest
      where
        dropped : (a : ℕ) → drop width (drop (a * width) samples) ≡ drop ((a + 1) * width) samples
        dropped a = grind (arith, common_steps)

        shorter : (n l w : ℕ) → l ≡ suc n * w → l - w ≡ n * w
        shorter n l w e = let f : suc n * w ≡ n * w + w = more n w in omega (arith, e, f)
          where
            more : (n w : ℕ) → suc n * w ≡ n * w + w
            more n w = grind arith

        whole : (xs : List ℕ) → take width xs ++ drop width xs ≡ xs
        whole xs = grind (arith, common_steps)

byte_at : (xs : List ℕ) (i : ℕ) → All IsByte xs → get_or xs i 0 < 256
byte_at xs i small = go (nat_lt i (length xs)) refl
  where
    go : (b : Bool) → nat_lt i (length xs) ≡ b → get_or xs i 0 < 256
    go true is = All-get_or IsByte xs i 0 (ltb-true i (length xs) is) small
    go false is = subst (λ n. n < 256) (sym (get_or-eq_default xs 0 (ltb-false i (length xs) is))) (lit< tt)

-- a plane of macroblocks of bytes is bytes
plane_bytes : (across down size first : ℕ) (ms : List (List ℕ)) → 0 < size → 0 < across → ((k : ℕ) → k < across * down → All IsByte (get_or ms k [])) → All IsByte (plane_from across down size first ms)
unfolding plane_from
plane_bytes across down size first ms some wide each =
    All-from_get_or IsByte (map (sample_at across size first ms) (range_with_len 0 count)) 0 (λ i below. at_place i (subst (λ n. i < n) (length-map-range_with_len (sample_at across size first ms) 0 count) below))
  where
    count : ℕ
    count = size * across * (size * down)

    at_place : (i : ℕ) → i < count → get_or (map (sample_at across size first ms) (range_with_len 0 count)) i 0 < 256
    at_place i below =
        let x = i % (size * across) in
        let y = i / (size * across) in
        let inside = in_block size across down i some wide below in
        subst (λ n. n < 256) (sym (get_or-map-range_with_len (sample_at across size first ms) 0 count i i 0 below (zero-add i)))
        (byte_at (get_or ms (y / size * across + x / size) []) (first + (y % size * size + x % size)) (each (y / size * across + x / size) (mul-add-lt (y / size) across (x / size) down inside.row inside.column)))

-- a picture whose macroblocks are bytes is bytes
pub planes_bytes : (across down : ℕ) (p : Planes) → 0 < across → HasPlanes across down p → ((k : ℕ) → k < across * down → All IsByte (macroblock_samples across p k))
    → All IsByte p.luma × All IsByte p.cb × All IsByte p.cr
planes_bytes across down p wide sizes bytes =
    let same = picture_is across down p wide sizes in (
      subst (λ (q : Planes). All IsByte q.luma) same (plane_bytes across down 16 0 ms (lit< tt) wide each),
      subst (λ (q : Planes). All IsByte q.cb) same (plane_bytes across down 8 256 ms (lit< tt) wide each),
      subst (λ (q : Planes). All IsByte q.cr) same (plane_bytes across down 8 320 ms (lit< tt) wide each),
    )
  where
    ms : List (List ℕ)
    ms = macroblocks_of across down p

    each : (k : ℕ) → k < across * down → All IsByte (get_or ms k [])
    each k below = subst (All IsByte) (sym (get_or-macroblocks across down k p below)) (bytes k below)
