use Rattle.std.proofs.Common.{◌≡◌, ◌++◌}
use Rattle.std.specs.List.{range_with_len, flat_map}
use Rattle.film_maker.specs.Made.{noise_of}
use Rattle.film_maker.proofs.Cutting.{made_text}
use Rattle.film_maker.proofs.pictures.push_pictures.Given as goal

abbrev pub invariant-loop-t : goal.invariant-loop-t
invariant-loop-t l = l.film.items ≡ l.initial.film.items ++ flat_map (made_text (noise_of l.fn.seed) l.width l.height) (range_with_len 0 l.t)
