use Rattle.picture_planes.specs.Samples.{samples_of}
use Rattle.intra_coder.proofs.LumaLaws.{choose8_is, build8_is}
use Rattle.residual_coder.specs.Stripes.{samples_from}
use Rattle.intra_coder.proofs.luma8.code_block8.Goals as goal

pub returns-clause-levels : goal.returns-clause-levels
returns-clause-levels c =
    choose8_is c.args.plane.now.width c.args.site.now c.args.modes.now c.args.b (samples_of c.args.source.now) (samples_from c.args.top c.args.plane.now) c.args.source.now.width
    c.block8_at-original.result c.prediction8-prediction.result c.code8-coded.result.levels
    c.requires.source.wide c.block8_at-original.ensures c.prediction8-prediction.ensures c.code8-coded.ensures.levels

pub returns-clause-samples : goal.returns-clause-samples
returns-clause-samples c =
    build8_is c.args.plane.now.width c.args.site.now c.args.modes.now c.args.b (samples_from c.args.top c.args.plane.now) _
    c.code8-coded.result.levels c.prediction8-prediction.result c.code8-coded.result.samples
    c.prediction8-prediction.ensures c.code8-coded.ensures.samples c.write_block.ensures.samples
