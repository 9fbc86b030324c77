use Rattle.std.proofs.Common.{ap, ◌∙◌}
use Rattle.picture_planes.specs.Samples.{samples_of}
use Rattle.spec_reconstruction.specs.Chroma.{chroma_dc_levels, chroma_ac_levels}
use Rattle.residual_coder.proofs.chroma.code_chroma.Goals as goal

pub returns-clause-dc : goal.returns-clause-dc
returns-clause-dc c = c.chroma_levels-levels.ensures.dc ∙ ap (λ v. chroma_dc_levels c.args.intra v c.args.site.now (samples_of c.args.source.now) c.args.prediction.now) c.requires.source.wide

pub returns-clause-ac : goal.returns-clause-ac
returns-clause-ac c = c.chroma_levels-levels.ensures.ac ∙ ap (λ v. chroma_ac_levels c.args.intra v c.args.site.now (samples_of c.args.source.now) c.args.prediction.now) c.requires.source.wide
