use Rattle.residual_coder.proofs.BlockLaws.{spectrum4_is}
use Rattle.residual_coder.proofs.luma.spectrum4.Goals as goal

pub returns-clause-value : goal.returns-clause-value
returns-clause-value c = spectrum4_is c.differences.result _ c.args.source.now c.args.prediction.now c.differences.ensures.value c.forward4.ensures.value
