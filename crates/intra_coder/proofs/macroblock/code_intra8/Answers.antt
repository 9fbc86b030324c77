use Rattle.picture_planes.specs.Pictures.{planes_of}
use Rattle.residual_coder.specs.Stripes.{planes_in}
use Rattle.intra_coder.proofs.MacroblockLaws.{components_at, intra8_is, planes8_are}
use Rattle.intra_coder.proofs.macroblock.code_intra8.Goals as goal

pub returns-clause-record : goal.returns-clause-record
returns-clause-record c =
    intra8_is c.args.stripe.now.picture.now.y.width c.args.site.now c.args.chroma_mode (planes_of c.args.source.now) (planes_in c.args.stripe.now)
    c.args.modes.now c.code_luma8-levels.result c.code_components-chroma.result.dc c.code_components-chroma.result.ac c.luma_pattern.result _ _ _ c.code_luma8-levels.ensures.levels c.luma_pattern.ensures
    (components_at c.args.stripe.now.picture.now.y.width c.args.site.now c.args.chroma_mode (planes_of c.args.source.now) (planes_in c.args.stripe.now)
    c.args.stripe.now.picture.now.cb.width c.args.stripe.now.picture.now.cr.width c.code_components-chroma.result.dc c.code_components-chroma.result.ac _ _
    c.args.stripe.now.picture.now.widths.0 c.args.stripe.now.picture.now.widths.1
    c.code_components-chroma.ensures.dc c.code_components-chroma.ensures.ac c.code_components-chroma.ensures.cb c.code_components-chroma.ensures.cr)
    c.record_of.ensures

pub returns-clause-planes : goal.returns-clause-planes
returns-clause-planes c =
    planes8_are c.args.stripe.now.picture.now.y.width c.args.site.now c.args.chroma_mode (planes_of c.args.source.now) (planes_in c.args.stripe.now)
    c.args.modes.now c.code_luma8-levels.result c.code_components-chroma.result.dc c.code_components-chroma.result.ac c.luma_pattern.result _ _ _ _ c.code_luma8-levels.ensures.samples
    (components_at c.args.stripe.now.picture.now.y.width c.args.site.now c.args.chroma_mode (planes_of c.args.source.now) (planes_in c.args.stripe.now)
    c.args.stripe.now.picture.now.cb.width c.args.stripe.now.picture.now.cr.width c.code_components-chroma.result.dc c.code_components-chroma.result.ac _ _
    c.args.stripe.now.picture.now.widths.0 c.args.stripe.now.picture.now.widths.1
    c.code_components-chroma.ensures.dc c.code_components-chroma.ensures.ac c.code_components-chroma.ensures.cb c.code_components-chroma.ensures.cr)
    c.record_of.ensures
