use Rattle.std.proofs.Common.{◌∙◌}
use Rattle.intra_coder.proofs.StripeLaws.{near4_from, readable_in}
use Rattle.intra_coder.proofs.near.near4.Goals as goal

pub near4-requires : goal.near4-requires
near4-requires c = readable_in c.args.plane.now c.args.top 4 c.args.avail.now c.args.x c.args.y c.requires

pub returns : goal.returns
returns c = c.near4.ensures ∙ near4_from c.args.plane.now c.args.top c.args.avail.now c.args.x c.args.y c.requires
