use Rattle.picture_planes.specs.Samples.{samples_of}
use Rattle.std.proofs.Common.{refl}
use Rattle.residual_coder.proofs.ChromaLaws.{chroma_dc_is, chroma_ac_is, made_dc, chroma_quantised}
use Rattle.residual_coder.proofs.chroma.chroma_levels.Goals as goal

pub returns-clause-dc : goal.returns-clause-dc
returns-clause-dc c =
    chroma_dc_is c.args.source.now.width c.args.site.now c.args.intra (samples_of c.args.source.now) c.args.prediction.now c.args.source.now.width c.chroma_qp-qp.result
    c.spectra_chroma-spectra.result.firsts c.chroma_dc-means.result _
    refl c.chroma_qp-qp.ensures.value c.spectra_chroma-spectra.ensures.firsts c.chroma_dc-means.ensures.value c.quantise_chroma_dc-quantised.ensures.value

pub returns-clause-ac : goal.returns-clause-ac
returns-clause-ac c =
    chroma_ac_is c.args.source.now.width c.args.site.now c.args.intra (samples_of c.args.source.now) c.args.prediction.now c.args.source.now.width c.chroma_qp-qp.result _
    refl c.chroma_qp-qp.ensures.value c.spectra_chroma-spectra.ensures.ac

pub returns-clause-quantised : goal.returns-clause-quantised
returns-clause-quantised c =
    chroma_quantised c.chroma_qp-qp.result _ c.quantise_chroma_dc-quantised.result.levels c.spectra_chroma-spectra.result.ac c.chroma_qp-qp.ensures.value (record {
      intra = c.args.intra;
      small = c.quantise_chroma_dc-quantised.ensures.small (c.chroma_dc-means.ensures.small c.spectra_chroma-spectra.ensures.small);
      made = made_dc c.args.intra c.chroma_qp-qp.result c.chroma_dc-means.result _ c.quantise_chroma_dc-quantised.ensures.value (c.chroma_dc-means.ensures.small c.spectra_chroma-spectra.ensures.small);
      others = c.spectra_chroma-spectra.ensures.quantised;
    })
