use Rattle.cabac_contexts.proofs.Blocks.{above4_is}
use Rattle.cabac_contexts.proofs.near.above_block4.Goals as goal

pub returns-clause-value : goal.returns-clause-value
returns-clause-value c = above4_is c.args.block c.requires
