use Rattle.std.proofs.Common.{true}
use Rattle.picture_planes.specs.Samples.{samples_of}
use Rattle.spec_residual.specs.declared.BlockKind.TheVariants.{LumaDc}
use Rattle.residual_coder.proofs.BlockLaws.{made4}
use Rattle.intra_coder.proofs.Luma16Laws.{prediction16_is, luma16_dc_is, luma16_levels_are, luma16_is_built}
use Rattle.residual_coder.specs.Stripes.{samples_from}
use Rattle.intra_coder.proofs.luma16.code_luma16.Goals as goal

pub unscanned-rows-requires-clause-made : goal.unscanned-rows-requires-clause-made
unscanned-rows-requires-clause-made c =
    made4 LumaDc true c.args.site.now.qp c.luma_dc-means.result _ c.quantise4-quantised.ensures.value (c.luma_dc-means.ensures.small c.spectra16-spectra.ensures.small)

pub build_luma16-requires-clause-dcs : goal.build_luma16-requires-clause-dcs
build_luma16-requires-clause-dcs c = c.rescale_luma_dc-dcs.ensures.small true (λ p h. c.unscanned-rows.ensures.made p)

pub returns-clause-dc : goal.returns-clause-dc
returns-clause-dc c =
    luma16_dc_is c.args.plane.now.width c.args.site.now c.args.mode (samples_of c.args.source.now) (samples_from c.args.top c.args.plane.now) c.pred16-prediction.result c.args.source.now.width
    c.spectra16-spectra.result.firsts c.luma_dc-means.result _
    (prediction16_is c.args.plane.now.width c.args.site.now c.args.mode (samples_from c.args.top c.args.plane.now) c.near16-near.result _ c.near16-near.ensures c.pred16-prediction.ensures)
    c.requires.source.wide c.spectra16-spectra.ensures.firsts c.luma_dc-means.ensures.value c.quantise4-quantised.ensures.value

pub returns-clause-levels : goal.returns-clause-levels
returns-clause-levels c =
    luma16_levels_are c.args.plane.now.width c.args.site.now c.args.mode (samples_of c.args.source.now) (samples_from c.args.top c.args.plane.now) c.pred16-prediction.result c.args.source.now.width _
    (prediction16_is c.args.plane.now.width c.args.site.now c.args.mode (samples_from c.args.top c.args.plane.now) c.near16-near.result _ c.near16-near.ensures c.pred16-prediction.ensures)
    c.requires.source.wide c.spectra16-spectra.ensures.levels

pub returns-clause-samples : goal.returns-clause-samples
returns-clause-samples c =
    luma16_is_built c.args.plane.now.width c.args.site.now c.args.mode (samples_from c.args.top c.args.plane.now) _ c.pred16-prediction.result
    c.quantise4-quantised.result.levels c.unscanned-rows.result c.rescale_luma_dc-dcs.result c.spectra16-spectra.result.levels
    (prediction16_is c.args.plane.now.width c.args.site.now c.args.mode (samples_from c.args.top c.args.plane.now) c.near16-near.result _ c.near16-near.ensures c.pred16-prediction.ensures)
    c.unscanned-rows.ensures.value c.rescale_luma_dc-dcs.ensures.value c.build_luma16.ensures.samples
