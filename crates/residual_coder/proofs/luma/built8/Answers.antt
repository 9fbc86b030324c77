use Rattle.residual_coder.proofs.BlockLaws.{built8_is}
use Rattle.residual_coder.proofs.luma.built8.Goals as goal

pub inverse8-requires : goal.inverse8-requires
inverse8-requires c = c.rescaled8-coefficients.ensures.small c.requires.quantised.intra c.requires.quantised.made

pub returns : goal.returns
returns c =
    built8_is c.args.qp c.args.levels.now c.rescaled8-coefficients.result c.inverse8.result c.args.prediction.now _
    c.rescaled8-coefficients.ensures.value c.inverse8.ensures c.constructed.ensures
