use Rattle.residual_coder.specs.Stripes.{planes_in}
use Rattle.inter_coder.specs.Made.{planes_at}
use Rattle.inter_coder.proofs.CodedLaws.{made_same, built_is}
use Rattle.inter_coder.proofs.choice.code_planned.Goals as goal

pub returns-clause-record : goal.returns-clause-record
returns-clause-record c view h = made_same c.args.pictures.now c.args.t8x8 c.args.site.now _ _ _ c.coded_by-coded.ensures.record (c.planned-mb.ensures.record view h)

pub returns-clause-planes : goal.returns-clause-planes
returns-clause-planes c =
    built_is c.args.pictures.now c.args.site.now c.coded_by-coded.result.mb c.args.stripe.now.picture.now.y.width (planes_at c.coded_by-coded.result.prediction) _ (planes_in c.args.stripe.now) c.requires.stands.alike c.build_over.ensures.planes c.coded_by-coded.ensures.prediction
