use Rattle.slice_coder.proofs.Beside.{beside_is}
use Rattle.slice_coder.proofs.near.beside_of.Goals as goal

pub returns : goal.returns
returns c s colocated w f = beside_is s colocated c.args.before.now c.args.across c.args.first _ w f c.left_of.ensures c.above_of.ensures c.back.ensures c.back-2.ensures
