-- Planes that are some rows of a larger one.
use Rattle.std.specs.Prelude.{ℕ, List, ◌++◌, ◌*◌, replicate}
use Rattle.picture_planes.specs.declared.plane.Plane.{Plane}
use Rattle.picture_planes.specs.declared.stripe.Stripe.{Stripe}
use Rattle.picture_planes.specs.Samples.{samples_of}
use Rattle.spec_film.specs.Films.{Planes}

-- the samples of a plane that begins with row `top` of a larger one, where they stand in that one; the rows above it hold 0
unfoldable pub samples_from : ℕ → Plane → List ℕ
samples_from top p = replicate (top * p.width) 0 ++ samples_of p

-- the planes of a stripe, where they stand in the whole picture
abbrev pub planes_in : Stripe → Planes
planes_in s = record { luma = samples_from (16 * s.first) s.picture.now.y; cb = samples_from (8 * s.first) s.picture.now.cb; cr = samples_from (8 * s.first) s.picture.now.cr }
