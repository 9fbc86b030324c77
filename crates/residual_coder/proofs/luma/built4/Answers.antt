use Rattle.residual_coder.proofs.BlockLaws.{built4_is}
use Rattle.residual_coder.proofs.luma.built4.Goals as goal

pub inverse4-requires : goal.inverse4-requires
inverse4-requires c = c.rescaled4-coefficients.ensures.small c.requires.quantised.intra c.requires.quantised.made

pub returns : goal.returns
returns c =
    built4_is c.args.qp c.args.levels.now c.rescaled4-coefficients.result c.inverse4.result c.args.prediction.now _
    c.rescaled4-coefficients.ensures.value c.inverse4.ensures c.constructed.ensures
