-- The film that stands in the input.
use Rattle.std.specs.Prelude.{ℕ, ◌≡◌, ◌-◌, ◌++◌, List, length, drop, Some, Ok}
use Rattle.spec_film.specs.declared.FilmHead.{FilmHead}
use Rattle.spec_film.specs.Films.{Planes, FilmEnd, most_pictures, read_head, pictures_of, film_of}

-- the first n bytes are the line of this head
abbrev pub HeadIs : FilmHead → ℕ → List ℕ → Type 0
HeadIs head n left = read_head left ≡ Ok (head, drop n left)

-- the first n bytes are this head and these pictures of a film: its other pictures are those of the bytes behind, and it ends as these end
pub record FilmTaken (left : List ℕ) (n : ℕ) (head : FilmHead) (pictures : List Planes) : Type 0 where
  pub head_is : (film_of left).head ≡ Some head
  pub pictures_are : pictures ++ (pictures_of (most_pictures - length pictures) head (drop n left)).0 ≡ (film_of left).pictures
  pub end_is : (pictures_of (most_pictures - length pictures) head (drop n left)).1 ≡ (film_of left).end

-- the bytes are a film with this head, these pictures and this end
pub record IsFilm (left : List ℕ) (head : FilmHead) (pictures : List Planes) (end : FilmEnd) : Type 0 where
  pub head_is : (film_of left).head ≡ Some head
  pub pictures_are : (film_of left).pictures ≡ pictures
  pub end_is : (film_of left).end ≡ end

-- behind the head: the first n bytes are these pictures; the other pictures are those of the bytes behind, and both end alike
pub record PicturesTaken (head : FilmHead) (n : ℕ) (pictures : List Planes) (left : List ℕ) : Type 0 where
  pub all : pictures ++ (pictures_of (most_pictures - length pictures) head (drop n left)).0 ≡ (pictures_of most_pictures head left).0
  pub end : (pictures_of (most_pictures - length pictures) head (drop n left)).1 ≡ (pictures_of most_pictures head left).1
