use Rattle.slice_coder.proofs.Follow.{near_is}
use Rattle.slice_coder.proofs.near.around_of.Goals as goal

pub returns : goal.returns
returns c mb f = near_is c.args.place.now c.args.head.now c.args.before.now mb _ _ c.left_of.ensures c.above_of.ensures f
