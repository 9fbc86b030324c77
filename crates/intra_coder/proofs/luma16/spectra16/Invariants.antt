use Rattle.std.proofs.Common.{◌≡◌, ◌*◌, pos, true, length, set, take, replicate}
use Rattle.enc_tables.specs.Steps.{steps}
use Rattle.picture_planes.specs.Samples.{samples_of}
use Rattle.spec_residual.specs.Blocks.{AllWithin, item}
use Rattle.spec_residual.specs.declared.BlockKind.TheVariants.{Luma4}
use Rattle.spec_reconstruction.specs.InOrder.{joined}
use Rattle.spec_reconstruction.specs.Luma.{place16, spectrum16}
use Rattle.spec_reconstruction.specs.Residuals.{levels_without_dc}
use Rattle.intra_coder.specs.Made.{BlocksQuantised}
use Rattle.intra_coder.proofs.luma16.spectra16.Given as goal

abbrev pub invariant-loop-b : goal.invariant-loop-b
invariant-loop-b l = record {
  long : length l.levels ≡ 256;
  few : length l.firsts ≡ 16;
  firsts : l.firsts ≡ steps (λ b c. set c (place16 b) (item (spectrum16 l.source.width l.site (samples_of l.source) l.prediction b) 0)) l.b (replicate 16 (pos 0));
  small : AllWithin 16 4080 l.firsts;
  levels : take (l.b * 16) l.levels ≡ joined (λ b. levels_without_dc Luma4 true l.site.qp (spectrum16 l.source.width l.site (samples_of l.source) l.prediction b)) l.b;
  quantised : BlocksQuantised l.site.qp l.b l.levels;
}
