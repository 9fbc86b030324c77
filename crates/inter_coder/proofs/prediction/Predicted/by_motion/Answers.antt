use Rattle.std.proofs.Common.{ℕ, List, ap, ap₂, ◌∙◌}
use Rattle.spec_film.specs.Films.{Planes}
use Rattle.spec_reconstruction.specs.Inter.{luma_predicted}
use Rattle.inter_coder.specs.Given.{wide_of, sources_in}
use Rattle.inter_coder.proofs.prediction.Predicted.by_motion.Goals as goal

abbrev three : List ℕ → List ℕ → List ℕ → Planes
three l b r = record { luma = l; cb = b; cr = r }

pub returns : goal.returns
returns c mb e =
    ap (λ (l : List ℕ). three l c.predict_chroma-cb.result c.predict_chroma-cr.result) (c.predict_luma-luma.ensures mb e)
    ∙ ap₂ (λ (b r : List ℕ). three (luma_predicted (wide_of c.args.pictures.now) (sources_in c.args.pictures.now) c.args.site.now mb) b r) (c.predict_chroma-cb.ensures mb e) (c.predict_chroma-cr.ensures mb e)
