-- What a picture holds.
use Rattle.std.specs.Prelude.{ℕ, zero, suc, List, ◌≡◌}
use Rattle.std.specs.Borrow.{Lends, MutBor, Fml, u8, Array}
use Rattle.picture_planes.specs.declared.plane.Plane.{Plane}
use Rattle.picture_planes.specs.declared.picture.Picture.{Picture}
use Rattle.picture_planes.specs.contracts.picture.Picture.{the_row}
use Rattle.picture_planes.specs.Samples.{buffer, with_row, samples_of, SameShape}
use Rattle.picture_planes.specs.Margins.{IsFilled}
use Rattle.spec_film.specs.Films.{Planes}

-- the plane of a number: luma, Cb, Cr
abbrev pub plane_of : Picture → ℕ → Plane
plane_of p zero = p.y
plane_of p (suc zero) = p.cb
plane_of p (suc (suc k)) = p.cr

-- the samples of a picture's planes, without margins
abbrev pub planes_of : Picture → Planes
planes_of p = record { luma = samples_of p.y; cb = samples_of p.cb; cr = samples_of p.cr }

-- p with w written over row y of plane k
abbrev pub with_picture_row : Picture → ℕ → ℕ → List ℕ → Picture
with_picture_row p zero y w = record p { y = with_row p.y y w }
with_picture_row p (suc zero) y w = record p { cb = with_row p.cb y w }
with_picture_row p (suc (suc k)) y w = record p { cr = with_row p.cr y w }

-- r is row y of plane k of s, lent for writing
abbrev pub LendsPictureRow : MutBor Picture → ℕ → ℕ → MutBor (List ℕ) → Fml
LendsPictureRow s k y r = Lends the_row (Array u8 0) s r (with_picture_row s.now k y)

-- the planes of new have the sizes and margins of those of old
abbrev pub SameShapes : Picture → Picture → Type 0
SameShapes old new = SameShape old.y new.y × SameShape old.cb new.cb × SameShape old.cr new.cr

-- every byte of new is that of old, in the margins too
abbrev pub SameBytes : Picture → Picture → Type 0
SameBytes old new = (buffer new.y ≡ buffer old.y) × (buffer new.cb ≡ buffer old.cb) × (buffer new.cr ≡ buffer old.cr)

-- the margins of all three planes are filled
abbrev pub AreFilled : Picture → Type 0
AreFilled p = IsFilled p.y × IsFilled p.cb × IsFilled p.cr
