use Rattle.picture_planes.specs.Samples.{samples_of}
use Rattle.residual_coder.specs.Stripes.{samples_from}
use Rattle.intra_coder.proofs.ChromaLaws.{prediction_chroma_is, chroma_dc_is, chroma_ac_is, chroma_is_built}
use Rattle.intra_coder.proofs.chroma.code_component.Goals as goal

pub returns-clause-dc : goal.returns-clause-dc
returns-clause-dc c =
    let wide = c.args.plane.now.width in
    let plane = samples_from c.args.top c.args.plane.now in
    chroma_dc_is wide c.args.site.now c.args.mode plane (samples_of c.args.source.now) c.pred_chroma-prediction.result _
    (prediction_chroma_is wide c.args.site.now c.args.mode plane c.near_chroma-near.result _ c.near_chroma-near.ensures c.pred_chroma-prediction.ensures) c.code_chroma.ensures.dc

pub returns-clause-ac : goal.returns-clause-ac
returns-clause-ac c =
    let wide = c.args.plane.now.width in
    let plane = samples_from c.args.top c.args.plane.now in
    chroma_ac_is wide c.args.site.now c.args.mode plane (samples_of c.args.source.now) c.pred_chroma-prediction.result _
    (prediction_chroma_is wide c.args.site.now c.args.mode plane c.near_chroma-near.result _ c.near_chroma-near.ensures c.pred_chroma-prediction.ensures) c.code_chroma.ensures.ac

pub returns-clause-samples : goal.returns-clause-samples
returns-clause-samples c =
    let wide = c.args.plane.now.width in
    let plane = samples_from c.args.top c.args.plane.now in
    chroma_is_built wide c.args.site.now c.args.mode plane _ c.pred_chroma-prediction.result c.code_chroma.result.dc c.code_chroma.result.ac
    (prediction_chroma_is wide c.args.site.now c.args.mode plane c.near_chroma-near.result _ c.near_chroma-near.ensures c.pred_chroma-prediction.ensures) c.code_chroma.ensures.samples
