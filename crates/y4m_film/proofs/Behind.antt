-- What the bytes behind a film's head tell of all bytes.
use Rattle.std.proofs.Common.{ℕ, ◌+◌, ◌-◌, ◌≡◌, List, [], ◌++◌, length, drop, Option, Some, None, Ok, Err, ap, sym, ◌∙◌}
use Rattle.std.specs.Prelude.{IfSome}
use Rattle.std.specs.Option.{option_map}
use Rattle.enc_edge.proofs.Spots.{drop_more}
use Rattle.spec_film.specs.declared.FilmHead.{FilmHead}
use Rattle.spec_film.specs.declared.HeadFault.{HeadFault}
use Rattle.spec_film.specs.declared.InputFault.TheVariants.{Head}
use Rattle.spec_film.specs.Films.{Film, Planes, FilmEnd, Faulty, most_pictures, pictures_of, read_head, film_of, film_from}
use Rattle.y4m_film.specs.Taken.{HeadIs, FilmTaken, IsFilm, PicturesTaken}

pub film_is : (head : FilmHead) (n : ℕ) (left : List ℕ) → HeadIs head n left → film_of left ≡ film_from (Ok (head, drop n left))
unfolding film_of
film_is head n left is = ap film_from is

-- the pictures behind a head
pub film_taken : (head : FilmHead) (n m : ℕ) (pictures : List Planes) (left : List ℕ) → HeadIs head n left → PicturesTaken head m pictures (drop n left) → FilmTaken left (n + m) head pictures
film_taken head n m pictures left is taken =
    let f = film_is head n left is in
    let behind : drop (n + m) left ≡ drop m (drop n left) = sym (drop_more n m left) in
    record {
      head_is = ap (λ (x : Film). x.head) f;
      pictures_are = ap (λ (rest : List ℕ). pictures ++ (pictures_of (most_pictures - length pictures) head rest).0) behind ∙ taken.all ∙ sym (ap (λ (x : Film). x.pictures) f);
      end_is = ap (λ (rest : List ℕ). (pictures_of (most_pictures - length pictures) head rest).1) behind ∙ taken.end ∙ sym (ap (λ (x : Film). x.end) f);
    }

-- all pictures behind a head
film_whole : (head : FilmHead) (n : ℕ) (pictures : List Planes) (end : FilmEnd) (left : List ℕ) → HeadIs head n left → pictures_of most_pictures head (drop n left) ≡ (pictures, end) → IsFilm left head pictures end
film_whole head n pictures end left is all =
    let f = film_is head n left is in
    record {
      head_is = ap (λ (x : Film). x.head) f;
      pictures_are = ap (λ (x : Film). x.pictures) f ∙ ap (λ (p : List Planes × FilmEnd). p.0) all;
      end_is = ap (λ (x : Film). x.end) f ∙ ap (λ (p : List Planes × FilmEnd). p.1) all;
    }

-- ---- where bytes are told

-- of both
pub told_both : (P Q : List ℕ → Type 0) (o : Option (List ℕ)) → IfSome o P → IfSome o Q → IfSome o (λ left. P left × Q left)
told_both P Q None p q = tt
told_both P Q (Some left) p q = (p, q)

-- of the bytes behind the head
told_behind : (head : FilmHead) (n : ℕ) (P Q : List ℕ → Type 0) (o : Option (List ℕ)) → ((left : List ℕ) → HeadIs head n left → P (drop n left) → Q left) → IfSome o (HeadIs head n) → IfSome (option_map (drop n) o) P → IfSome o Q
told_behind head n P Q None turn is told = tt
told_behind head n P Q (Some left) turn is told = turn left is told

-- the pictures so far
pub told_taken : (head : FilmHead) (n m : ℕ) (pictures : List Planes) (o : Option (List ℕ)) → IfSome o (HeadIs head n) → IfSome (option_map (drop n) o) (PicturesTaken head m pictures)
    → IfSome o (λ left. FilmTaken left (n + m) head pictures)
told_taken head n m pictures o is told =
    told_behind head n (PicturesTaken head m pictures) (λ left. FilmTaken left (n + m) head pictures) o (λ left h t. film_taken head n m pictures left h t) is told

-- all pictures, and the end
pub told_film : (head : FilmHead) (n : ℕ) (pictures : List Planes) (end : FilmEnd) (o : Option (List ℕ)) → IfSome o (HeadIs head n)
    → IfSome (option_map (drop n) o) (λ left. pictures_of most_pictures head left ≡ (pictures, end)) → IfSome o (λ left. IsFilm left head pictures end)
told_film head n pictures end o is told =
    told_behind head n (λ left. pictures_of most_pictures head left ≡ (pictures, end)) (λ left. IsFilm left head pictures end) o (λ left h all. film_whole head n pictures end left h all) is told

-- nothing is left
pub told_none : (head : FilmHead) (n m : ℕ) (o : Option (List ℕ)) → IfSome o (HeadIs head n) → IfSome (option_map (drop n) o) (λ left. drop m left ≡ []) → IfSome o (λ left. drop (n + m) left ≡ [])
told_none head n m o is told =
    told_behind head n (λ left. drop m left ≡ []) (λ left. drop (n + m) left ≡ []) o (λ left h none. sym (drop_more n m left) ∙ none) is told

-- there is no head
pub told_no_head : (fault : HeadFault) (o : Option (List ℕ)) → IfSome o (λ left. read_head left ≡ Err fault) → IfSome o (λ left. ((film_of left).head ≡ None) × ((film_of left).end ≡ Faulty (Head fault)))
unfolding film_of
told_no_head fault None e = tt
told_no_head fault (Some left) e =
    let f : film_of left ≡ film_from (Err fault) = ap film_from e in
    (ap (λ (x : Film). x.head) f, ap (λ (x : Film). x.end) f)
