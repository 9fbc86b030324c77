use Rattle.plane_blocks.proofs.AvailLaws.{avail_is}
use Rattle.plane_blocks.proofs.places.near_macroblock.Goals as goal

pub returns : goal.returns
returns c =
    avail_is c.args.width c.args.first_row c.args.row c.args.column c.both.result c.both-2.result c.requires.column c.requires.first
    c.both.ensures c.both-2.ensures
