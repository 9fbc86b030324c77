-- Stripes that are lent.
use Rattle.std.proofs.Common.{◌≡◌, ◌≤◌, ap}
use Rattle.std.proofs.Math.Bridge.{le_prop}
use Rattle.picture_planes.specs.declared.stripe.Stripe.{Stripe}

abbrev with_place : (s : Stripe) → s.first ≤ 143 → Stripe
with_place s place = record { picture = s.picture; first = s.first; place = place }

-- it doesn't matter how the place of a stripe was shown
pub same_stripe : (s : Stripe) (place : s.first ≤ 143) → with_place s place ≡ s
same_stripe s place = ap (with_place s) (le_prop place s.place)
