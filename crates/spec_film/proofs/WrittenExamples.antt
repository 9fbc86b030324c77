-- Worked texts of written films.
use Rattle.std.proofs.Common.{◌≡◌, [], codes, refl}
use Rattle.std.specs.Fmt.{digits}
use Rattle.spec_film.specs.Written.{head_text, film_text}

-- the head of a film of one macroblock at 25 pictures per second
small_head : head_text (record { width = 16; height = 16; num = 25; den = 1 }) ≡ codes "YUV4MPEG2 W16 H16 F25:1 Ip C420\n"
unfolding head_text digits
small_head = refl

no_pictures : film_text (record { width = 352; height = 288; num = 30000; den = 1001 }) [] ≡ codes "YUV4MPEG2 W352 H288 F30000:1001 Ip C420\n"
unfolding head_text film_text digits
no_pictures = refl
