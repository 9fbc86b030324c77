-- What a studio with a film shows.
use Rattle.std.specs.Prelude.{drop}
use Rattle.std.specs.Borrow.{GName}
use Rattle.enc_edge.specs.declared.film.WithFilm.{WithFilm}
use Rattle.enc_edge.specs.Seen.{Seen}
use Rattle.enc_edge.specs.Filmed.{filmed}

-- the reference of the studio behind, by its name in proofs
abbrev pub lender_of : {S : Type 0} → WithFilm S → GName
lender_of w = w.studio.ghost_name

-- by what the studio behind shows
abbrev pub film_seen : {S : Type 0} → (S → Seen) → WithFilm S → Seen
film_seen seen w = filmed (drop w.taken w.film.items) (lender_of w) (seen w.studio.now)
