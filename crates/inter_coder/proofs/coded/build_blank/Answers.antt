use Rattle.residual_coder.specs.Stripes.{planes_in}
use Rattle.inter_coder.specs.Made.{planes_at}
use Rattle.inter_coder.proofs.CodedLaws.{blank_coded, blank_motion, built_is}
use Rattle.inter_coder.proofs.coded.build_blank.Goals as goal

pub build_over-requires-clause-quantised : goal.build_over-requires-clause-quantised
build_over-requires-clause-quantised c = blank_coded _ _ _ _ _ c.moving-mb.ensures

pub returns-clause-planes : goal.returns-clause-planes
returns-clause-planes c =
    built_is c.args.pictures.now c.args.site.now c.moving-mb.result c.args.stripe.now.picture.now.y.width (planes_at c.by_motion-prediction.result) _ (planes_in c.args.stripe.now) c.requires.stands.alike c.build_over.ensures.planes
    (c.by_motion-prediction.ensures c.moving-mb.result (blank_motion _ _ _ _ c.moving-mb.ensures))
