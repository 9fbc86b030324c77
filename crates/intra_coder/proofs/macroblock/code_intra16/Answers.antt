use Rattle.std.proofs.Common.{Bool, false, ℕ, List, ap, ◌∙◌}
use Rattle.enc_tables.specs.declared.records.MbKind.TheVariants as kinds
use Rattle.spec_reconstruction.specs.Records.{bit_if, intra_record}
use Rattle.picture_planes.specs.Pictures.{planes_of}
use Rattle.residual_coder.specs.Stripes.{planes_in}
use Rattle.intra_coder.proofs.MacroblockLaws.{components_at, intra16_is, planes16_are}
use Rattle.intra_coder.proofs.macroblock.code_intra16.Goals as goal

pub returns-clause-record : goal.returns-clause-record
returns-clause-record c =
    intra16_is c.args.stripe.now.picture.now.y.width c.args.site.now c.args.chroma_mode (planes_of c.args.source.now) (planes_in c.args.stripe.now)
    c.args.mode c.code_luma16-coded.result.dc c.code_luma16-coded.result.levels c.code_components-chroma.result.dc c.code_components-chroma.result.ac c.bit_if.result _ _ _ c.code_luma16-coded.ensures.levels c.code_luma16-coded.ensures.dc (c.bit_if.ensures ∙ ap (λ (b : Bool). bit_if b 15) c.some_level.ensures)
    (components_at c.args.stripe.now.picture.now.y.width c.args.site.now c.args.chroma_mode (planes_of c.args.source.now) (planes_in c.args.stripe.now)
    c.args.stripe.now.picture.now.cb.width c.args.stripe.now.picture.now.cr.width c.code_components-chroma.result.dc c.code_components-chroma.result.ac _ _
    c.args.stripe.now.picture.now.widths.0 c.args.stripe.now.picture.now.widths.1
    c.code_components-chroma.ensures.dc c.code_components-chroma.ensures.ac c.code_components-chroma.ensures.cb c.code_components-chroma.ensures.cr)
    (c.record_of.ensures ∙ ap (λ (m : List ℕ). intra_record kinds.Intra16 false m c.args.chroma_mode c.args.site.now.qp c.bit_if.result c.code_luma16-coded.result.dc c.code_luma16-coded.result.levels c.code_components-chroma.result.dc c.code_components-chroma.result.ac) c.first_mode.ensures)

pub returns-clause-planes : goal.returns-clause-planes
returns-clause-planes c =
    planes16_are c.args.stripe.now.picture.now.y.width c.args.site.now c.args.chroma_mode (planes_of c.args.source.now) (planes_in c.args.stripe.now)
    c.args.mode c.code_luma16-coded.result.dc c.code_luma16-coded.result.levels c.code_components-chroma.result.dc c.code_components-chroma.result.ac c.bit_if.result _ _ _ _ c.code_luma16-coded.ensures.samples
    (components_at c.args.stripe.now.picture.now.y.width c.args.site.now c.args.chroma_mode (planes_of c.args.source.now) (planes_in c.args.stripe.now)
    c.args.stripe.now.picture.now.cb.width c.args.stripe.now.picture.now.cr.width c.code_components-chroma.result.dc c.code_components-chroma.result.ac _ _
    c.args.stripe.now.picture.now.widths.0 c.args.stripe.now.picture.now.widths.1
    c.code_components-chroma.ensures.dc c.code_components-chroma.ensures.ac c.code_components-chroma.ensures.cb c.code_components-chroma.ensures.cr)
    (c.record_of.ensures ∙ ap (λ (m : List ℕ). intra_record kinds.Intra16 false m c.args.chroma_mode c.args.site.now.qp c.bit_if.result c.code_luma16-coded.result.dc c.code_luma16-coded.result.levels c.code_components-chroma.result.dc c.code_components-chroma.result.ac) c.first_mode.ensures)
