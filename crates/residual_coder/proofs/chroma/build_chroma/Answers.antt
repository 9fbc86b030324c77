use Rattle.std.proofs.Common.{sym}
use Rattle.residual_coder.proofs.ChromaLaws.{chroma_is_over, chroma_quantised}
use Rattle.residual_coder.specs.Stripes.{samples_from}
use Rattle.residual_coder.proofs.chroma.build_chroma.Goals as goal

pub build_component-requires-clause-dcs : goal.build_component-requires-clause-dcs
build_component-requires-clause-dcs c =
    let q = chroma_quantised _ c.chroma_qp-qp.result c.args.levels.now.dc c.args.levels.now.ac (sym c.chroma_qp-qp.ensures.value) c.requires.quantised in
    c.rescale_chroma_dc-dcs.ensures.small q.intra q.made

pub build_component-requires-clause-quantised : goal.build_component-requires-clause-quantised
build_component-requires-clause-quantised c =
    (chroma_quantised _ c.chroma_qp-qp.result c.args.levels.now.dc c.args.levels.now.ac (sym c.chroma_qp-qp.ensures.value) c.requires.quantised).others

pub returns-clause-samples : goal.returns-clause-samples
returns-clause-samples c =
    chroma_is_over c.args.plane.now.width c.args.site.now c.chroma_qp-qp.result (samples_from c.args.top c.args.plane.now) _ c.args.prediction.now
    c.args.levels.now.dc c.rescale_chroma_dc-dcs.result c.args.levels.now.ac
    c.chroma_qp-qp.ensures.value c.rescale_chroma_dc-dcs.ensures.value c.build_component.ensures.samples
