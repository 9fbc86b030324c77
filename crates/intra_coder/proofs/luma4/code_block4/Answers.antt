use Rattle.picture_planes.specs.Samples.{samples_of}
use Rattle.intra_coder.proofs.LumaLaws.{choose4_is, build4_is}
use Rattle.residual_coder.specs.Stripes.{samples_from}
use Rattle.intra_coder.proofs.luma4.code_block4.Goals as goal

pub returns-clause-levels : goal.returns-clause-levels
returns-clause-levels c =
    choose4_is c.args.plane.now.width c.args.site.now c.args.modes.now c.args.b (samples_of c.args.source.now) (samples_from c.args.top c.args.plane.now) c.args.source.now.width
    c.block_column.result c.block_row.result c.block4_at-original.result c.prediction4-prediction.result c.code4-coded.result.levels
    c.block_column.ensures.value c.block_row.ensures.value c.requires.source.wide c.block4_at-original.ensures c.prediction4-prediction.ensures c.code4-coded.ensures.levels

pub returns-clause-samples : goal.returns-clause-samples
returns-clause-samples c =
    build4_is c.args.plane.now.width c.args.site.now c.args.modes.now c.args.b (samples_from c.args.top c.args.plane.now) _
    c.block_column.result c.block_row.result c.code4-coded.result.levels c.prediction4-prediction.result c.code4-coded.result.samples
    c.block_column.ensures.value c.block_row.ensures.value c.prediction4-prediction.ensures c.code4-coded.ensures.samples c.write_block.ensures.samples
