use Rattle.std.proofs.Common.{◌≡◌, ◌<◌, ◌*◌, ℕ, length, take, false}
use Rattle.picture_planes.specs.Samples.{samples_of}
use Rattle.spec_residual.specs.declared.BlockKind.TheVariants.{Luma4}
use Rattle.spec_reconstruction.specs.InOrder.{joined, levels_of_block}
use Rattle.spec_reconstruction.specs.Luma.{x4, y4, part16}
use Rattle.spec_reconstruction.specs.Parts.{block_at}
use Rattle.spec_reconstruction.specs.Residuals.{luma_levels4}
use Rattle.residual_coder.specs.Made.{IsQuantised}
use Rattle.inter_coder.proofs.levels.whole_levels4.Given as goal

abbrev pub invariant-loop-b : goal.invariant-loop-b
invariant-loop-b l = record {
  long : length l.levels ≡ 256;
  levels : take (l.b * 16) l.levels ≡ joined (λ b. luma_levels4 false l.site.qp (block_at l.source.width (x4 l.site b) (y4 l.site b) 4 (samples_of l.source)) (part16 l.prediction b)) l.b;
  quantised : (b : ℕ) → b < l.b → IsQuantised Luma4 l.site.qp (levels_of_block 16 b l.levels);
}
