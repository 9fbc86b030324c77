-- Rows of a picture that are lent for writing.
use Rattle.std.specs.Prelude.{ℕ, List, [], ◌+◌, ◌-◌, ◌<◌, ◌≤◌}
use Rattle.std.specs.Borrow.{Lends, MutBor, Fml, u8, Array}
use mir.Syntax.{named}
use Rattle.picture_planes.specs.declared.stripe.Stripe.{Stripe}
use Rattle.picture_planes.specs.contracts.stripe.Stripe.{the_row}
use Rattle.picture_planes.specs.declared.plane.Plane.{Plane}
use Rattle.picture_planes.specs.Clamped.{top_of}
use Rattle.picture_planes.specs.Pictures.{with_picture_row, plane_of}

-- plane k of the stripe's own picture
abbrev pub stripe_plane : Stripe → ℕ → Plane
stripe_plane s k = plane_of s.picture.now k

-- where row y of plane k stands in the stripe's own picture
abbrev pub place_of : Stripe → ℕ → ℕ → ℕ
place_of s k y = y - top_of s.first k

-- row y of plane k is in the stripe
pub record Holds (s : Stripe) (k y : ℕ) : Type 0 where
  pub plane : k ≤ 2
  pub above : top_of s.first k ≤ y
  pub below : y < top_of s.first k + (stripe_plane s k).height

-- s with w written over row y of plane k
abbrev pub with_stripe_row : Stripe → ℕ → ℕ → List ℕ → Stripe
with_stripe_row s k y w = record s { picture = record s.picture { now = with_picture_row s.picture.now k (place_of s k y) w } }

-- r is row y of plane k of s, lent for writing
abbrev pub LendsStripeRow : MutBor Stripe → ℕ → ℕ → MutBor (List ℕ) → Fml
LendsStripeRow s k y r = Lends (the_row (record { mir = named 1; lft = [] })) (Array u8 0) s r (with_stripe_row s.now k y)
