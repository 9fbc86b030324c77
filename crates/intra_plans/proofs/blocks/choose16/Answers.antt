use Rattle.std.proofs.Common.{refl, lit<}
use Rattle.picture_planes.specs.Samples.{samples_of}
use Rattle.intra_plans.proofs.Bests.{best16_is}
use Rattle.intra_plans.proofs.blocks.choose16.Goals as goal

pub returns-clause-value : goal.returns-clause-value
returns-clause-value c =
    best16_is c.args.luma.now.width (samples_of c.args.luma.now) c.args.avail.now c.args.x c.args.y c.near16-near.result c.read_block.new.out
    c.least.result c.near16-near.ensures c.read_block.ensures c.least.ensures.value

pub returns-clause-small : goal.returns-clause-small
returns-clause-small c = c.least.ensures.small 2 (lit< tt) refl
