-- Pictures in their output order.
use Rattle.std.specs.Prelude.{ℕ, nat_lt, List, [], ◌∷◌, map, if◌then◌else◌}
use Rattle.spec_film.specs.Films.{Planes}

-- a picture among others by rising picture order count
unfoldable pub placed : ℕ × Planes → List (ℕ × Planes) → List (ℕ × Planes)
placed p [] = p ∷ []
placed p (q ∷ qs) = if nat_lt p.0 q.0 then p ∷ q ∷ qs else q ∷ placed p qs

abbrev pub pictures_in : List (ℕ × Planes) → List Planes
pictures_in period = map (λ p. p.1) period
