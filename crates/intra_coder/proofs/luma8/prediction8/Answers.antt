use Rattle.intra_coder.proofs.LumaLaws.{prediction8_is}
use Rattle.residual_coder.specs.Stripes.{samples_from}
use Rattle.intra_coder.proofs.luma8.prediction8.Goals as goal

pub returns : goal.returns
returns c =
    prediction8_is c.args.plane.now.width c.args.site.now c.args.modes.now c.args.b (samples_from c.args.top c.args.plane.now)
    c.near_block8-avail.result c.near8-near.result c.pred8.result
    c.near_block8-avail.ensures c.near8-near.ensures c.pred8.ensures
