use Rattle.std.proofs.Common.{◌∙◌}
use Rattle.intra_coder.proofs.StripeLaws.{near16_from, reachable_in}
use Rattle.intra_coder.proofs.near.near16.Goals as goal

pub near16-requires : goal.near16-requires
near16-requires c = reachable_in c.args.plane.now c.args.top 16 c.args.avail.now c.args.x c.args.y c.requires

pub returns : goal.returns
returns c = c.near16.ensures ∙ near16_from c.args.plane.now c.args.top c.args.avail.now c.args.x c.args.y c.requires
