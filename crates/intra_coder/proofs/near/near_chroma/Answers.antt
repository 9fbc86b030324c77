use Rattle.std.proofs.Common.{◌∙◌}
use Rattle.intra_coder.proofs.StripeLaws.{near_chroma_from, reachable_in}
use Rattle.intra_coder.proofs.near.near_chroma.Goals as goal

pub near_chroma-requires : goal.near_chroma-requires
near_chroma-requires c = reachable_in c.args.plane.now c.args.top 8 c.args.avail.now c.args.x c.args.y c.requires

pub returns : goal.returns
returns c = c.near_chroma.ensures ∙ near_chroma_from c.args.plane.now c.args.top c.args.avail.now c.args.x c.args.y c.requires
