use Rattle.std.proofs.Common.{◌∙◌, ◌-◌, ℕ, refl, ap}
use Rattle.picture_planes.specs.Samples.{row_of}
use Rattle.picture_planes.specs.Stripes.{stripe_plane, with_stripe_row}
use Rattle.picture_planes.proofs.Lending.{same_stripe}
use Rattle.picture_planes.proofs.stripe.Stripe.row.Goals as goal

pub returns : goal.returns
returns c = rw c.top.ensures (
  (refl, λ w. same_stripe (with_stripe_row c.args.self.now c.args.plane c.args.y w) _),
  record {
    writes_back = _;
    value = c.row_mut.ensures.value ∙ ap (λ (t : ℕ). row_of (stripe_plane c.args.self.now c.args.plane) (c.args.y - t)) c.top.ensures;
    len = c.row_mut.ensures.len;
  },
)
