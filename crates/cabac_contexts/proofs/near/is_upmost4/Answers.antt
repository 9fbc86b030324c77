use Rattle.cabac_contexts.proofs.Blocks.{upmost4_is}
use Rattle.cabac_contexts.proofs.near.is_upmost4.Goals as goal

pub returns : goal.returns
returns c = upmost4_is c.args.block c.requires
