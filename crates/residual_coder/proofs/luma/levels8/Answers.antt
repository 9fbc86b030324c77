use Rattle.residual_coder.proofs.BlockLaws.{spectrum8_is, luma_levels8_is, made8}
use Rattle.residual_coder.proofs.luma.levels8.Goals as goal

pub returns-clause-value : goal.returns-clause-value
returns-clause-value c =
    luma_levels8_is c.args.intra c.args.qp c.forward8-spectrum.result _ c.args.source.now c.args.prediction.now
    (spectrum8_is c.differences.result _ c.args.source.now c.args.prediction.now c.differences.ensures.value c.forward8-spectrum.ensures.value) c.quantise8.ensures.value

pub returns-clause-quantised : goal.returns-clause-quantised
returns-clause-quantised c = record {
  intra = c.args.intra;
  small = c.quantise8.ensures.small c.forward8-spectrum.ensures.small;
  made = made8 c.args.intra c.args.qp c.forward8-spectrum.result _ c.quantise8.ensures.value c.forward8-spectrum.ensures.small;
}
