-- Planes whose rows are cut from bands.
use Rattle.std.proofs.Common.{◌≡◌, ℕ, zero, suc, ◌+◌, ◌-◌, ◌*◌, ◌/◌, ◌%◌, ◌<◌, ◌≤◌, List, [], ◌∷◌, ◌++◌, length, get_or, take, drop, map, refl, ap, ap₂, sym, arith, ◌∙◌, length-take-le, append_assoc}
use Rattle.std.specs.List.{range_with_len, flat_map}
use Rattle.std.proofs.lemmas.List.{length-drop, get_or-take, get_or-drop, flat_map_more}
use Rattle.std.proofs.lemmas.List.FromFn.{fill_by_all}
use Rattle.std.proofs.lemmas.List.Folds.{flat_map-map}
use Rattle.spec_film.specs.Films.{Planes}
use Rattle.spec_film.specs.Written.{frame_line, picture_text}
use Rattle.film_maker.specs.Bands.{IsBand, IsHalfBand, rows_cut, luma_place, chroma_place, cb_of, cr_of}
use Rattle.film_maker.specs.Made.{luma_at, cb_at, cr_at, plane_by, made_picture}

-- ---- counting

counting_from : (a n : ℕ) → range_with_len a (suc n) ≡ range_with_len a n ++ (a + n) ∷ []
counting_from a zero = let e : a ≡ a + 0 = omega arith in ap (λ k. k ∷ []) e
counting_from a (suc n) = let e : a + 1 + n ≡ a + suc n = omega arith in ap (λ l. a ∷ l) (counting_from (a + 1) n ∙ ap (λ k. range_with_len (a + 1) n ++ k ∷ []) e)

counting_more : (n : ℕ) → range_with_len 0 (n + 1) ≡ range_with_len 0 n ++ n ∷ []
counting_more n =
    let e : n + 1 ≡ suc n = omega arith in
    let f : 0 + n ≡ n = omega arith in
    ap (range_with_len 0) e ∙ counting_from 0 n ∙ ap (λ k. range_with_len 0 n ++ k ∷ []) f

-- one more piece behind all before it
pub piece_more : (f : ℕ → List ℕ) (bytes : List ℕ) (n : ℕ) → (bytes ++ flat_map f (range_with_len 0 n)) ++ f n ≡ bytes ++ flat_map f (range_with_len 0 (n + 1))
piece_more f bytes n = flat_map_more f bytes (range_with_len 0 n) n ∙ sym (ap (λ l. bytes ++ flat_map f l) (counting_more n))

pub row_more : (f : ℕ → List ℕ) (before bytes now row : List ℕ) (n : ℕ) → bytes ≡ before ++ flat_map f (range_with_len 0 n) → row ≡ f n → now ≡ bytes ++ row → now ≡ before ++ flat_map f (range_with_len 0 (n + 1))
row_more f before bytes now row n e r s = s ∙ ap₂ (λ xs ys. xs ++ ys) e r ∙ piece_more f before n

-- the row as the code cuts it out, up to where it ends
pub cut_row : (place width : ℕ) (band : List ℕ) → take (place + width - place) (drop place band) ≡ take width (drop place band)
cut_row place width band = let e : place + width - place ≡ width = omega arith in ap (λ n. take n (drop place band)) e

flat_same : (f g : ℕ → List ℕ) → ((y : ℕ) → f y ≡ g y) → (ys : List ℕ) → flat_map f ys ≡ flat_map g ys
flat_same f g same [] = refl
flat_same f g same (y ∷ ys) = ap₂ (λ xs zs. xs ++ zs) (same y) (flat_same f g same ys)

-- ---- rows

row_by : (f : ℕ → ℕ) (band : List ℕ) (place width : ℕ) → place + width ≤ length band → ((k : ℕ) → k < width → get_or band (place + k) 0 ≡ f k) → take width (drop place band) ≡ map f (range_with_len 0 width)
row_by f band place width long each =
    let rest : width ≤ length (drop place band) = omega (arith, long, length-drop place band) in
    fill_by_all f (take width (drop place band)) width 0 (length-take-le width (drop place band) rest)
    (λ k lt. get_or-take width (drop place band) k 0 lt ∙ get_or-drop place band k 0 ∙ each k lt)

in_luma : (t y k : ℕ) → k < 1920 → 8 * ((luma_place t y + k) / 1984) + (luma_place t y + k) % 1984 % 64 / 8 ≡ 8 * ((y + t) % 64 / 8) + (k + 2 * t) % 64 / 8
in_luma t y k small =
    let row : (luma_place t y + k) / 1984 ≡ (y + t) % 64 / 8 = omega (arith, small) in
    let column : (luma_place t y + k) % 1984 ≡ 2 * t % 64 + k = omega (arith, small) in
    let within : (2 * t % 64 + k) % 64 ≡ (k + 2 * t) % 64 = omega arith in
    ap₂ (λ i j. 8 * i + j / 8) row (ap (λ n. n % 64) column ∙ within)

luma_row : (noise band : List ℕ) (t y width : ℕ) → IsBand noise band → width ≤ 1920 → take width (drop (luma_place t y) band) ≡ map (λ x. luma_at noise t x y) (range_with_len 0 width)
unfolding luma_at
luma_row noise band t y width h small =
    row_by (λ x. luma_at noise t x y) band (luma_place t y) width (omega (arith, small, h.size))
    (λ k lt. h.each (luma_place t y + k) (omega (arith, small, lt)) ∙ ap (λ n. get_or noise n 0) (in_luma t y k (omega (arith, small, lt))))

pub luma_cut : (noise band : List ℕ) (t width height : ℕ) → IsBand noise band → width ≤ 1920 → rows_cut (luma_place t) width height band ≡ plane_by (luma_at noise t) width height
unfolding plane_by
luma_cut noise band t width height h small = flat_same _ _ (λ y. luma_row noise band t y width h small) (range_with_len 0 height)

in_chroma : (t y k : ℕ) → k < 960 → 8 * (2 * (chroma_place t y + k) / 1984) + 2 * (chroma_place t y + k) % 1984 % 64 / 8 ≡ 8 * ((2 * y + t) % 64 / 8) + (2 * k + 2 * t) % 64 / 8
in_chroma t y k small =
    let row : 2 * (chroma_place t y + k) / 1984 ≡ (2 * y + t) % 64 / 8 = omega (arith, small) in
    let column : 2 * (chroma_place t y + k) % 1984 ≡ 2 * (t % 32) + 2 * k = omega (arith, small) in
    let within : (2 * (t % 32) + 2 * k) % 64 ≡ (2 * k + 2 * t) % 64 = omega arith in
    ap₂ (λ i j. 8 * i + j / 8) row (ap (λ n. n % 64) column ∙ within)

chroma_row : (f : ℕ → ℕ) (noise band half : List ℕ) (t y width : ℕ) → IsBand noise band → IsHalfBand f band half → width ≤ 960 → take width (drop (chroma_place t y) half) ≡ map (λ x. f (luma_at noise t (2 * x) (2 * y))) (range_with_len 0 width)
unfolding luma_at
chroma_row f noise band half t y width h g small =
    row_by (λ x. f (luma_at noise t (2 * x) (2 * y))) half (chroma_place t y) width (omega (arith, small, g.size))
    (λ k lt. g.each (chroma_place t y + k) (omega (arith, small, lt))
    ∙ ap f (h.each (2 * (chroma_place t y + k)) (omega (arith, small, lt)) ∙ ap (λ n. get_or noise n 0) (in_chroma t y k (omega (arith, small, lt)))))

pub cb_cut : (noise band half : List ℕ) (t width height : ℕ) → IsBand noise band → IsHalfBand cb_of band half → width ≤ 960 → rows_cut (chroma_place t) width height half ≡ plane_by (cb_at noise t) width height
unfolding plane_by cb_at
cb_cut noise band half t width height h g small = flat_same _ _ (λ y. chroma_row cb_of noise band half t y width h g small) (range_with_len 0 height)

pub cr_cut : (noise band half : List ℕ) (t width height : ℕ) → IsBand noise band → IsHalfBand cr_of band half → width ≤ 960 → rows_cut (chroma_place t) width height half ≡ plane_by (cr_at noise t) width height
unfolding plane_by cr_at
cr_cut noise band half t width height h g small = flat_same _ _ (λ y. chroma_row cr_of noise band half t y width h g small) (range_with_len 0 height)

-- ---- pictures

-- the bytes of picture t
abbrev pub made_text : List ℕ → ℕ → ℕ → ℕ → List ℕ
made_text noise width height t = picture_text (made_picture noise width height t)

joined : (bytes f y b r : List ℕ) → (((bytes ++ f) ++ y) ++ b) ++ r ≡ bytes ++ (f ++ (y ++ (b ++ r)))
joined bytes f y b r = append_assoc ((bytes ++ f) ++ y) b r ∙ append_assoc (bytes ++ f) y (b ++ r) ∙ append_assoc bytes f (y ++ (b ++ r))

text_by : (luma cb cr : List ℕ) (p : Planes) → luma ≡ p.luma → cb ≡ p.cb → cr ≡ p.cr → frame_line ++ (luma ++ (cb ++ cr)) ≡ picture_text p
unfolding picture_text
text_by luma cb cr p e f g = rw (e, f, g) refl

picture_by : (noise luma cb cr : List ℕ) (width height t : ℕ) → IsBand noise luma → IsHalfBand cb_of luma cb → IsHalfBand cr_of luma cr → width ≤ 1920
    → frame_line ++ (rows_cut (luma_place t) width height luma ++ (rows_cut (chroma_place t) (width / 2) (height / 2) cb ++ rows_cut (chroma_place t) (width / 2) (height / 2) cr)) ≡ made_text noise width height t
unfolding made_picture
picture_by noise luma cb cr width height t h b r small =
    text_by _ _ _ (made_picture noise width height t)
    (luma_cut noise luma t width height h small)
    (cb_cut noise luma cb t (width / 2) (height / 2) h b (omega (arith, small)))
    (cr_cut noise luma cr t (width / 2) (height / 2) h r (omega (arith, small)))

-- picture t behind those before it
pub picture_more : (noise luma cb cr before bytes : List ℕ) (width height t : ℕ) → IsBand noise luma → IsHalfBand cb_of luma cb → IsHalfBand cr_of luma cr → width ≤ 1920
    → bytes ≡ before ++ flat_map (made_text noise width height) (range_with_len 0 t)
    → (((bytes ++ frame_line) ++ rows_cut (luma_place t) width height luma) ++ rows_cut (chroma_place t) (width / 2) (height / 2) cb) ++ rows_cut (chroma_place t) (width / 2) (height / 2) cr
    ≡ before ++ flat_map (made_text noise width height) (range_with_len 0 (t + 1))
picture_more noise luma cb cr before bytes width height t h b r small e =
    joined bytes frame_line (rows_cut (luma_place t) width height luma) (rows_cut (chroma_place t) (width / 2) (height / 2) cb) (rows_cut (chroma_place t) (width / 2) (height / 2) cr)
    ∙ ap₂ (λ xs ys. xs ++ ys) e (picture_by noise luma cb cr width height t h b r small)
    ∙ piece_more (made_text noise width height) before t

pub pictures_all : (noise before : List ℕ) (width height count : ℕ) → before ++ flat_map (made_text noise width height) (range_with_len 0 count) ≡ before ++ flat_map picture_text (map (made_picture noise width height) (range_with_len 0 count))
pictures_all noise before width height count = ap (λ l. before ++ l) (sym (flat_map-map picture_text (made_picture noise width height) (range_with_len 0 count)))
