-- Worked rows of films from numbers.
use Rattle.std.proofs.Common.{◌≡◌, [], ◌∷◌, length, take, drop, refl}
use Rattle.std.specs.Fmt.{digits}
use Rattle.spec_film.specs.Written.{head_text, picture_text, film_text}
use Rattle.film_maker.specs.Made.{next_state, state_after, noise_of, luma_at, cb_at, cr_at, plane_by, made_picture, made_film}

-- one picture of 16 by 16 from the number 1: 32 bytes of head, 6 of the picture's line, 384 samples; the first luma sample is 108
first_film : length (made_film 1 16 16 1) ≡ 422
unfolding made_film film_text head_text digits made_picture picture_text plane_by luma_at cb_at cr_at noise_of state_after next_state
first_film = refl

first_sample : take 1 (drop 38 (made_film 1 16 16 1)) ≡ 108 ∷ []
unfolding made_film film_text head_text digits made_picture picture_text plane_by luma_at cb_at cr_at noise_of state_after next_state
first_sample = refl

-- an odd width: 272 luma samples, 64 of Cb, 64 of Cr
odd_film : length (made_film 1 17 16 1) ≡ 438
unfolding made_film film_text head_text digits made_picture picture_text plane_by luma_at cb_at cr_at noise_of state_after next_state
odd_film = refl
