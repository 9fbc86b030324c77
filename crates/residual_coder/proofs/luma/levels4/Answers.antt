use Rattle.spec_residual.specs.declared.BlockKind.TheVariants.{Luma4}
use Rattle.residual_coder.proofs.BlockLaws.{spectrum4_is, luma_levels4_is, made4}
use Rattle.residual_coder.proofs.luma.levels4.Goals as goal

pub returns-clause-value : goal.returns-clause-value
returns-clause-value c =
    luma_levels4_is c.args.intra c.args.qp c.forward4-spectrum.result _ c.args.source.now c.args.prediction.now
    (spectrum4_is c.differences.result _ c.args.source.now c.args.prediction.now c.differences.ensures.value c.forward4-spectrum.ensures.value) c.quantise4.ensures.value

pub returns-clause-quantised : goal.returns-clause-quantised
returns-clause-quantised c = record {
  intra = c.args.intra;
  small = c.quantise4.ensures.small c.forward4-spectrum.ensures.small;
  made = made4 Luma4 c.args.intra c.args.qp c.forward4-spectrum.result _ c.quantise4.ensures.value c.forward4-spectrum.ensures.small;
}
