use Rattle.std.proofs.Common.{pos, replicate}
use Rattle.spec_reconstruction.specs.Chroma.{chroma_qp}
use Rattle.residual_coder.proofs.BlockLaws.{item_of_zeros}
use Rattle.residual_coder.proofs.NoLevels.{zeros_chroma}
use Rattle.residual_coder.specs.Stripes.{samples_from}
use Rattle.intra_coder.proofs.ChromaLaws.{prediction_chroma_is, chroma_is_built}
use Rattle.intra_coder.proofs.flat.build_component.Goals as goal

pub build_chroma-requires-clause-quantised : goal.build_chroma-requires-clause-quantised
build_chroma-requires-clause-quantised c = zeros_chroma (chroma_qp c.args.site.now.qp) (replicate 4 (pos 0)) (replicate 60 (pos 0)) (λ k. item_of_zeros 4 k) (λ k. item_of_zeros 60 k)

pub returns-clause-samples : goal.returns-clause-samples
returns-clause-samples c =
    let wide = c.args.plane.now.width in
    let plane = samples_from c.args.top c.args.plane.now in
    chroma_is_built wide c.args.site.now 0 plane _ c.pred_chroma-prediction.result (replicate 4 (pos 0)) (replicate 60 (pos 0))
    (prediction_chroma_is wide c.args.site.now 0 plane c.near_chroma-near.result _ c.near_chroma-near.ensures c.pred_chroma-prediction.ensures) c.build_chroma.ensures.samples
