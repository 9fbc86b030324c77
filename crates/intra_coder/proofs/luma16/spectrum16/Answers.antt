use Rattle.picture_planes.specs.Samples.{samples_of}
use Rattle.intra_coder.proofs.Luma16Laws.{spectrum16_is}
use Rattle.intra_coder.proofs.luma16.spectrum16.Goals as goal

pub returns-clause-value : goal.returns-clause-value
returns-clause-value c =
    spectrum16_is c.args.source.now.width c.args.site.now (samples_of c.args.source.now) c.args.prediction.now c.args.b c.block_column.result c.block_row.result
    c.block4_at-original.result c.part16-part.result _ c.block_column.ensures.value c.block_row.ensures.value c.block4_at-original.ensures c.part16-part.ensures c.spectrum4.ensures.value
