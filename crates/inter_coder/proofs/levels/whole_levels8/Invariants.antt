use Rattle.std.proofs.Common.{◌≡◌, ◌<◌, ◌*◌, ℕ, length, take, false}
use Rattle.picture_planes.specs.Samples.{samples_of}
use Rattle.spec_reconstruction.specs.InOrder.{joined, levels_of_block}
use Rattle.spec_reconstruction.specs.Luma.{x8, y8}
use Rattle.spec_reconstruction.specs.Parts.{block_at}
use Rattle.spec_coded.specs.Levels.{part8}
use Rattle.spec_reconstruction.specs.Residuals.{luma_levels8}
use Rattle.residual_coder.specs.Made.{IsQuantised8}
use Rattle.inter_coder.proofs.levels.whole_levels8.Given as goal

abbrev pub invariant-loop-k : goal.invariant-loop-k
invariant-loop-k l = record {
  long : length l.levels ≡ 256;
  levels : take (l.k * 64) l.levels ≡ joined (λ b. luma_levels8 false l.site.qp (block_at l.source.width (x8 l.site b) (y8 l.site b) 8 (samples_of l.source)) (part8 l.prediction b)) l.k;
  quantised : (b : ℕ) → b < l.k → IsQuantised8 l.site.qp (levels_of_block 64 b l.levels);
}
