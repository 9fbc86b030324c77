-- The text of a film that is written: the head line, and for each picture its line and its planes.
use Rattle.std.specs.Prelude.{ℕ, List, [], ◌∷◌, ◌++◌, codes, decimal}
use Rattle.std.specs.List.{flat_map}
use Rattle.spec_film.specs.declared.FilmHead.{FilmHead}
use Rattle.spec_film.specs.Films.{Planes}

-- sizes, rate, progressive, 4:2:0
unfoldable pub head_text : FilmHead → List ℕ
head_text h =
    codes "YUV4MPEG2 W" ++ (decimal h.width ++ (codes " H" ++ (decimal h.height ++ (codes " F" ++ (decimal h.num ++ (codes ":" ++ (decimal h.den ++ codes " Ip C420\n")))))))

-- the line before a picture: FRAME and a line feed
abbrev pub frame_line : List ℕ
frame_line = 70 ∷ 82 ∷ 65 ∷ 77 ∷ 69 ∷ 10 ∷ []

abbrev pub planes_text : Planes → List ℕ
planes_text p = p.luma ++ (p.cb ++ p.cr)

-- of planes with the head's own sizes
unfoldable pub picture_text : Planes → List ℕ
picture_text p = frame_line ++ planes_text p

unfoldable pub film_text : FilmHead → List Planes → List ℕ
film_text h pictures = head_text h ++ flat_map picture_text pictures
