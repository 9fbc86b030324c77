use Rattle.residual_coder.specs.Stripes.{planes_in}
use Rattle.inter_coder.specs.Made.{planes_at}
use Rattle.inter_coder.proofs.SampleLaws.{inter_is, over_is}
use Rattle.inter_coder.proofs.samples.build_over.Goals as goal

pub returns-clause-planes : goal.returns-clause-planes
returns-clause-planes c s e =
    let picture = c.args.stripe.now.picture.now in
    inter_is picture.y.width s c.args.site.now c.args.mb.now (planes_in c.args.stripe.now) (planes_at c.args.prediction.now) _ _ _ e c.build_luma.ensures.samples
    (over_is c.args.site.now picture.cb.width picture.y.width c.args.prediction.now.cb _ _ _ _ _ _ picture.widths.0 c.first_of-cb.ensures.0 c.first_of-cb.ensures.1 c.build_chroma.ensures.samples)
    (over_is c.args.site.now picture.cr.width picture.y.width c.args.prediction.now.cr _ _ _ _ _ _ picture.widths.1 c.second_of-cr.ensures.0 c.second_of-cr.ensures.1 c.build_chroma-2.ensures.samples)
