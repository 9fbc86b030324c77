use Rattle.cabac_contexts.proofs.Blocks.{leftmost4_is}
use Rattle.cabac_contexts.proofs.near.is_leftmost4.Goals as goal

pub returns : goal.returns
returns c = leftmost4_is c.args.block c.requires
