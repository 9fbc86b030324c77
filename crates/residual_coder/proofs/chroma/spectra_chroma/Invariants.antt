use Rattle.std.proofs.Common.{◌≡◌, ◌<◌, ◌*◌, ℕ, length, take, drop}
use Rattle.picture_planes.specs.Samples.{samples_of}
use Rattle.spec_basics.specs.Bounds.{Within}
use Rattle.spec_residual.specs.Blocks.{item}
use Rattle.spec_residual.specs.declared.BlockKind.TheVariants.{Chroma4}
use Rattle.spec_reconstruction.specs.Chroma.{spectrum_chroma}
use Rattle.spec_reconstruction.specs.InOrder.{joined}
use Rattle.spec_reconstruction.specs.Residuals.{levels_without_dc}
use Rattle.residual_coder.specs.Made.{FoursQuantised}
use Rattle.residual_coder.proofs.chroma.spectra_chroma.Given as goal

abbrev pub invariant-loop-b : goal.invariant-loop-b
invariant-loop-b l = record {
  long : length l.ac ≡ 60;
  few : length l.firsts ≡ 4;
  firsts : (k : ℕ) → k < l.b → item l.firsts k ≡ item (spectrum_chroma l.source.width l.site (samples_of l.source) l.prediction k) 0;
  small : (k : ℕ) → k < l.b → Within 4080 (item l.firsts k);
  ac : take (l.b * 15) l.ac ≡ joined (λ b. drop 1 (levels_without_dc Chroma4 l.intra l.qp (spectrum_chroma l.source.width l.site (samples_of l.source) l.prediction b))) l.b;
  quantised : FoursQuantised l.qp l.b l.ac;
}
