use Rattle.std.proofs.Common.{refl, lit<}
use Rattle.picture_planes.specs.Samples.{samples_of}
use Rattle.intra_plans.proofs.Bests.{best_chroma_is}
use Rattle.intra_plans.proofs.blocks.choose_chroma.Goals as goal

pub returns-clause-value : goal.returns-clause-value
returns-clause-value c =
    best_chroma_is c.args.cb.now.width c.args.cr.now.width (samples_of c.args.cb.now) (samples_of c.args.cr.now) c.args.avail.now c.args.x c.args.y
    c.near_chroma-near_cb.result c.near_chroma-near_cr.result c.read_block.new.out c.read_block-2.new.out c.least.result c.requires.same
    c.near_chroma-near_cb.ensures c.near_chroma-near_cr.ensures c.read_block.ensures c.read_block-2.ensures c.least.ensures.value

pub returns-clause-small : goal.returns-clause-small
returns-clause-small c = c.least.ensures.small 0 (lit< tt) refl
