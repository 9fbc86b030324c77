use Rattle.picture_planes.specs.Samples.{samples_of}
use Rattle.residual_coder.proofs.ChromaLaws.{spectrum_chroma_is}
use Rattle.residual_coder.proofs.chroma.spectrum_chroma.Goals as goal

pub returns-clause-value : goal.returns-clause-value
returns-clause-value c =
    spectrum_chroma_is c.args.source.now.width c.args.site.now (samples_of c.args.source.now) c.args.prediction.now c.args.b
    c.block4_at-original.result c.part_chroma-part.result _ c.block4_at-original.ensures c.part_chroma-part.ensures c.spectrum4.ensures.value
