use Rattle.std.proofs.Common.{◌≡◌, ◌++◌}
use Rattle.film_maker.specs.Bands.{rows_cut, chroma_place}
use Rattle.film_maker.proofs.pictures.push_chroma.Given as goal

abbrev pub invariant-loop-y : goal.invariant-loop-y
invariant-loop-y l = l.film.items ≡ l.initial.film.items ++ rows_cut (chroma_place l.t) l.width l.y l.band
