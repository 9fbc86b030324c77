use Rattle.std.proofs.Common.{◌++◌, ℤ, List, ap₂, ◌∙◌}
use Rattle.picture_planes.specs.Samples.{samples_of}
use Rattle.residual_coder.specs.Stripes.{samples_from}
use Rattle.intra_coder.proofs.ChromaLaws.{first_half, second_half}
use Rattle.intra_coder.proofs.chroma.code_components.Goals as goal

pub returns-clause-dc : goal.returns-clause-dc
returns-clause-dc c = c.both_dc.ensures ∙ ap₂ (λ (a b : List ℤ). a ++ b) c.code_component-of_cb.ensures.dc c.code_component-of_cr.ensures.dc

pub returns-clause-ac : goal.returns-clause-ac
returns-clause-ac c = c.both_ac.ensures ∙ ap₂ (λ (a b : List ℤ). a ++ b) c.code_component-of_cb.ensures.ac c.code_component-of_cr.ensures.ac

pub returns-clause-cb : goal.returns-clause-cb
returns-clause-cb c =
    first_half c.args.mode c.args.site.now c.args.cb.now.width c.args.cr.now.width (samples_of c.args.source.now.cb) (samples_from c.args.top c.args.cb.now) (samples_from c.args.top c.args.cr.now)
    c.both_dc.result c.both_ac.result c.code_component-of_cb.result.dc c.code_component-of_cb.result.ac c.code_component-of_cr.result.dc c.code_component-of_cr.result.ac _
    c.both_dc.ensures c.both_ac.ensures c.code_component-of_cb.ensures.dc c.code_component-of_cb.ensures.ac c.code_component-of_cb.ensures.samples

pub returns-clause-cr : goal.returns-clause-cr
returns-clause-cr c =
    second_half c.args.mode c.args.site.now c.args.cb.now.width c.args.cr.now.width (samples_of c.args.source.now.cb) (samples_from c.args.top c.args.cb.now) (samples_from c.args.top c.args.cr.now)
    c.both_dc.result c.both_ac.result c.code_component-of_cb.result.dc c.code_component-of_cb.result.ac c.code_component-of_cr.result.dc c.code_component-of_cr.result.ac _
    c.both_dc.ensures c.both_ac.ensures c.code_component-of_cb.ensures.dc c.code_component-of_cb.ensures.ac c.code_component-of_cr.ensures.samples
