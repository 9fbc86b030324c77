use Rattle.slice_coder.proofs.PlaneBytes.{stripe_bytes}
use Rattle.slice_coder.proofs.samples.lemma_stripe_fits.Goals as goal

pub returns : goal.returns
returns c = stripe_bytes c.args.stripe.now c.lemma_samples_fit.ensures
