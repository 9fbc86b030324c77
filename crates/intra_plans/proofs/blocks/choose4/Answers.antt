use Rattle.std.proofs.Common.{refl, lit<}
use Rattle.picture_planes.specs.Samples.{samples_of}
use Rattle.intra_plans.proofs.Bests.{best4_is}
use Rattle.intra_plans.proofs.blocks.choose4.Goals as goal

pub returns-clause-value : goal.returns-clause-value
returns-clause-value c =
    best4_is c.args.luma.now.width (samples_of c.args.luma.now) c.args.avail.now c.args.x c.args.y c.near4.result c.read_block.new.out
    c.of-line.result.samples c.of-line.result.avail c.least.result c.near4.ensures c.of-line.ensures.samples c.of-line.ensures.avail
    c.read_block.ensures c.least.ensures.value

pub returns-clause-small : goal.returns-clause-small
returns-clause-small c = c.least.ensures.small 2 (lit< tt) refl
