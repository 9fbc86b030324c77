use Rattle.std.proofs.Common.{◌∙◌, arith}
use Rattle.lane_kernels.proofs.Apart.{sad_lanes, bytes_fit}
use Rattle.lane_kernels.proofs.rows.sad16.Goals as goal

pub returns : goal.returns
returns c =
    c.unsigned_abs.ensures.value
    ∙ sad_lanes 16 c.args.x.now c.args.y.now (omega arith) c.told-x c.told-y (bytes_fit c.args.x.now c.fits-x) (bytes_fit c.args.y.now c.fits-y)
