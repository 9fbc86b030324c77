use Rattle.spec_reconstruction.specs.InOrder.{levels_of_block}
use Rattle.residual_coder.specs.Stripes.{samples_from}
use Rattle.inter_coder.proofs.SampleLaws.{inter4_is}
use Rattle.inter_coder.proofs.samples.build_block4.Goals as goal

pub returns-clause-samples : goal.returns-clause-samples
returns-clause-samples c =
    inter4_is c.args.plane.now.width c.args.site.now c.args.prediction.now c.args.b (levels_of_block 16 c.args.b c.args.levels.now) (samples_from c.args.top c.args.plane.now) _
    c.block_column.result c.block_row.result c.levels4_of-block.result c.part16-part.result c.built4-samples.result
    c.block_column.ensures.value c.block_row.ensures.value c.levels4_of-block.ensures c.part16-part.ensures c.built4-samples.ensures c.write_block.ensures.samples
