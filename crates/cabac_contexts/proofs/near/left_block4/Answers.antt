use Rattle.cabac_contexts.proofs.Blocks.{left4_is}
use Rattle.cabac_contexts.proofs.near.left_block4.Goals as goal

pub returns-clause-value : goal.returns-clause-value
returns-clause-value c = left4_is c.args.block c.requires
