use Rattle.spec_reconstruction.specs.InOrder.{levels_of_block}
use Rattle.residual_coder.specs.Stripes.{samples_from}
use Rattle.inter_coder.proofs.SampleLaws.{inter8_is}
use Rattle.inter_coder.proofs.samples.build_block8.Goals as goal

pub returns-clause-samples : goal.returns-clause-samples
returns-clause-samples c =
    inter8_is c.args.plane.now.width c.args.site.now c.args.prediction.now c.args.k (levels_of_block 64 c.args.k c.args.levels.now) (samples_from c.args.top c.args.plane.now) _
    c.levels8_of-block.result c.part8-part.result c.built8-samples.result
    c.levels8_of-block.ensures c.part8-part.ensures c.built8-samples.ensures c.write_block.ensures.samples
