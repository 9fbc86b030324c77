use Rattle.std.proofs.Common.{◌∙◌}
use Rattle.intra_coder.proofs.StripeLaws.{near8_from, readable_in}
use Rattle.intra_coder.proofs.near.near8.Goals as goal

pub near8-requires : goal.near8-requires
near8-requires c = readable_in c.args.plane.now c.args.top 8 c.args.avail.now c.args.x c.args.y c.requires

pub returns : goal.returns
returns c = c.near8.ensures ∙ near8_from c.args.plane.now c.args.top c.args.avail.now c.args.x c.args.y c.requires
