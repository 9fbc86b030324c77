use Rattle.intra_coder.proofs.LumaLaws.{prediction4_is}
use Rattle.residual_coder.specs.Stripes.{samples_from}
use Rattle.intra_coder.proofs.luma4.prediction4.Goals as goal

pub returns : goal.returns
returns c =
    prediction4_is c.args.plane.now.width c.args.site.now c.args.modes.now c.args.b (samples_from c.args.top c.args.plane.now)
    c.block_column-column.result c.block_row-row.result c.near_block4-avail.result c.near4-near.result c.pred4.result
    c.block_column-column.ensures.value c.block_row-row.ensures.value c.near_block4-avail.ensures c.near4-near.ensures c.pred4.ensures
