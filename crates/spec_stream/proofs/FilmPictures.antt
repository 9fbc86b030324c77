-- The pictures of a film of bytes.
use Rattle.std.proofs.Common.{ℕ, zero, suc, ◌+◌, ◌-◌, ◌*◌, ◌/◌, ◌≡◌, List, [], ◌∷◌, length, drop, get_or, replicate, Option, Some, None, Result, Ok, Err, refl, ap, sym, ◌∙◌, subst, arith, lit<}
use Rattle.std.specs.List.{All}
use Rattle.std.proofs.Math.Nat.{mul_comm}
use Rattle.std.proofs.lemmas.List.Elements.{All-nil, All-cons, All-head, All-tail, All-append, All-take, All-drop}
use Rattle.spec_bits.specs.Bits.{IsByte}
use Rattle.spec_film.specs.declared.FilmHead.{FilmHead}
use Rattle.spec_film.specs.declared.HeadFault.{HeadFault}
use Rattle.spec_film.specs.Padding.{padded_size, row_at, widened, widened_rows, repeated, padded_plane}
use Rattle.spec_film.specs.Films.{Planes, Film, AllowedHead, luma_count, chroma_count, planes_count, FrameStep, Over, Next, Broken, frame_step, pictures_of, most_pictures, line_of, read_head, film_from, film_of}
use Rattle.spec_film.proofs.FilmLaws.{next_lengths, next_padded, pictures_over, pictures_broken, pictures_next, head_allowed, head_parts, next_none}
use Rattle.spec_stream.specs.Pictures.{IsPicture}

-- ---- padded samples of bytes are bytes

all_repeated : (n x : ℕ) → IsByte x → All IsByte (replicate {A = ℕ} n x)
all_repeated zero x small = All-nil IsByte
all_repeated (suc n) x small = All-cons IsByte x (replicate {A = ℕ} n x) small (all_repeated n x small)

item_small : (xs : List ℕ) (i : ℕ) → All IsByte xs → IsByte (get_or xs i 0)
item_small [] i small = lit< tt
item_small (x ∷ xs) zero small = All-head IsByte x xs small
item_small (x ∷ xs) (suc i) small = item_small xs i (All-tail IsByte x xs small)

widened_bytes : (wide : ℕ) (row : List ℕ) → All IsByte row → All IsByte (widened wide row)
widened_bytes wide row small = All-append IsByte row (replicate (wide - length row) (get_or row (length row - 1) 0)) small (all_repeated (wide - length row) (get_or row (length row - 1) 0) (item_small row (length row - 1) small))

row_bytes : (width y : ℕ) (xs : List ℕ) → All IsByte xs → All IsByte (row_at width y xs)
row_bytes width y xs small = All-take IsByte width (drop (y * width) xs) (All-drop IsByte (y * width) xs small)

rows_bytes : (width wide n : ℕ) (xs : List ℕ) → All IsByte xs → All IsByte (widened_rows width wide n xs)
unfolding widened_rows
rows_bytes width wide zero xs small = All-nil IsByte
rows_bytes width wide (suc n) xs small = All-append IsByte (widened_rows width wide n xs) (widened wide (row_at width n xs)) (rows_bytes width wide n xs small) (widened_bytes wide (row_at width n xs) (row_bytes width n xs small))

again_bytes : (n : ℕ) (row : List ℕ) → All IsByte row → All IsByte (repeated n row)
unfolding repeated
again_bytes zero row small = All-nil IsByte
again_bytes (suc n) row small = All-append IsByte (repeated n row) row (again_bytes n row small) small

padded_bytes : (width height wide high : ℕ) (xs : List ℕ) → All IsByte xs → All IsByte (padded_plane width height wide high xs)
unfolding padded_plane
padded_bytes width height wide high xs small =
    All-append IsByte (widened_rows width wide height xs) (repeated (high - height) (widened wide (row_at width (height - 1) xs))) (rows_bytes width wide height xs small)
    (again_bytes (high - height) (widened wide (row_at width (height - 1) xs)) (widened_bytes wide (row_at width (height - 1) xs) (row_bytes width (height - 1) xs small)))

-- ---- pictures

-- a picture that is read
picture_is : (more : ℕ) (head : FilmHead) (bytes : List ℕ) (p : Planes) (rest : List ℕ) → All IsByte bytes → frame_step more head bytes ≡ Next p rest → IsPicture head p
picture_is more head bytes p rest small next =
    let sizes = next_lengths more head bytes p rest next in
    let read = next_padded more head bytes p rest next in
    let front : All IsByte (drop read.skipped bytes) = All-drop IsByte read.skipped bytes small in
    record {
      luma = sizes.0 ∙ mul_comm (padded_size head.height) (padded_size head.width);
      cb = sizes.1 ∙ mul_comm (padded_size head.height / 2) (padded_size head.width / 2);
      cr = sizes.2 ∙ mul_comm (padded_size head.height / 2) (padded_size head.width / 2);
      luma_bytes = subst (λ (q : Planes). All IsByte q.luma) (sym read.planes_are) (padded_bytes _ _ _ _ _ (All-take IsByte (luma_count head) (drop read.skipped bytes) front));
      cb_bytes = subst (λ (q : Planes). All IsByte q.cb) (sym read.planes_are) (padded_bytes _ _ _ _ _ (All-take IsByte (chroma_count head) _ (All-drop IsByte (luma_count head) (drop read.skipped bytes) front)));
      cr_bytes = subst (λ (q : Planes). All IsByte q.cr) (sym read.planes_are) (padded_bytes _ _ _ _ _ (All-take IsByte (chroma_count head) _ (All-drop IsByte (luma_count head + chroma_count head) (drop read.skipped bytes) front)));
    }

rest_bytes : (more : ℕ) (head : FilmHead) (bytes : List ℕ) (p : Planes) (rest : List ℕ) → All IsByte bytes → frame_step more head bytes ≡ Next p rest → All IsByte rest
rest_bytes more head bytes p rest small next =
    let read = next_padded more head bytes p rest next in
    subst (λ (l : List ℕ). All IsByte l) (sym read.rest_is) (All-drop IsByte (read.skipped + planes_count head) bytes small)

pictures_are : (more : ℕ) (head : FilmHead) (bytes : List ℕ) → All IsByte bytes → All (IsPicture head) (pictures_of more head bytes).0
pictures_are zero head bytes small = go (frame_step zero head bytes) refl
  where
    go : (s : FrameStep) → frame_step zero head bytes ≡ s → All (IsPicture head) (pictures_of zero head bytes).0
    go Over is = subst (λ r. All (IsPicture head) r.0) (sym (pictures_over zero head bytes is)) (All-nil (IsPicture head))
    go (Next p rest) is = absurd (next_none head bytes p rest is)
    go (Broken fault) is = subst (λ r. All (IsPicture head) r.0) (sym (pictures_broken zero head bytes fault is)) (All-nil (IsPicture head))
pictures_are (suc more) head bytes small = go (frame_step (suc more) head bytes) refl (λ rest. pictures_are more head rest)
  where
    go : (s : FrameStep) → frame_step (suc more) head bytes ≡ s → ((rest : List ℕ) → All IsByte rest → All (IsPicture head) (pictures_of more head rest).0) → All (IsPicture head) (pictures_of (suc more) head bytes).0
    go Over is after = subst (λ r. All (IsPicture head) r.0) (sym (pictures_over (suc more) head bytes is)) (All-nil (IsPicture head))
    go (Broken fault) is after = subst (λ r. All (IsPicture head) r.0) (sym (pictures_broken (suc more) head bytes fault is)) (All-nil (IsPicture head))
    go (Next p rest) is after =
        subst (λ r. All (IsPicture head) r.0) (sym (pictures_next (suc more) more head bytes p rest is (omega arith)))
        (All-cons (IsPicture head) p (pictures_of more head rest).0 (picture_is (suc more) head bytes p rest small is) (after rest (rest_bytes (suc more) head bytes p rest small is)))

-- the bytes behind the head
head_rest : (bytes : List ℕ) (head : FilmHead) (rest : List ℕ) → All IsByte bytes → read_head bytes ≡ Ok (head, rest) → All IsByte rest
head_rest bytes head rest small read =
    subst (λ (l : List ℕ). All IsByte l) (sym (head_parts bytes head rest read).rest_is) (All-drop IsByte (length (line_of bytes) + 1) bytes small)

-- what is known of a film with a head
pub record HasHead (film : Film) (h : FilmHead) : Type 0 where
  pub allowed : AllowedHead h
  pub pictures : All (IsPicture h) film.pictures

pub film_has : (bytes : List ℕ) (h : FilmHead) → All IsByte bytes → (film_of bytes).head ≡ Some h → HasHead (film_of bytes) h
unfolding film_of
film_has bytes h small = go (read_head bytes) refl
  where
    go : (o : Result (FilmHead × List ℕ) HeadFault) → read_head bytes ≡ o → (film_from o).head ≡ Some h → HasHead (film_from o) h
    go (Err fault) is e = absurd cc
    go (Ok (head, rest)) is e =
        let same : head ≡ h = cc in
        subst (λ k. HasHead (film_from (Ok (head, rest))) k) same (record { allowed = head_allowed bytes head rest is; pictures = pictures_are most_pictures head rest (head_rest bytes head rest small is) })
