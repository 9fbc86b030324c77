use Rattle.std.proofs.Common.{arith}
use Rattle.lane_kernels.proofs.Apart.{total_lanes}
use Rattle.lane_kernels.proofs.blocks.total16.Goals as goal

pub returns : goal.returns
returns c = total_lanes 16 c.args.all (omega arith) c.requires.lanes c.requires.low
