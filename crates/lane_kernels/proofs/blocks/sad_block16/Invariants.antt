use Rattle.std.proofs.Common.{◌≡◌, ◌*◌, length}
use Rattle.spec_kernels.specs.Sums.{block_difference, strided}
use Rattle.lane_kernels.specs.Lanes.{lane_sum, AllAtMost}
use Rattle.lane_kernels.proofs.blocks.sad_block16.Given as goal

abbrev pub invariant-loop-row : goal.invariant-loop-row
invariant-loop-row l = record {
  lanes : length l.all ≡ 16;
  total : lane_sum l.all ≡ block_difference (strided l.a l.stride_a) (strided l.b l.stride_b) 16 l.row;
  most : AllAtMost (255 * l.row) l.all;
}
