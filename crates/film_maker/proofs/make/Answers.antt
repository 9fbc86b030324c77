use Rattle.std.proofs.Common.{◌++◌, map, ap, ◌∙◌}
use Rattle.std.specs.List.{range_with_len, flat_map}
use Rattle.spec_film.specs.Written.{film_text, picture_text}
use Rattle.film_maker.specs.Made.{noise_of, made_picture, made_film}
use Rattle.film_maker.proofs.make.Goals as goal

pub returns : goal.returns
unfolding made_film film_text
returns c =
    c.in_ok-push_pictures.ensures
    ∙ ap (λ bytes. bytes ++ flat_map picture_text (map (made_picture (noise_of c.args.seed) c.args.width c.args.height) (range_with_len 0 c.args.count)))
    (c.in_ok-extend_from_slice.ensures.items ∙ ap (λ bytes. bytes ++ c.as_bytes.result.now) c.in_ok-film.ensures.items ∙ c.as_bytes.ensures.value ∙ c.deref.ensures.0 ∙ c.head_line-head.ensures)
