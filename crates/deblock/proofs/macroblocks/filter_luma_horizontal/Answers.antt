use Rattle.deblock.proofs.Rooms.{luma_room}
use Rattle.deblock.proofs.macroblocks.filter_luma_horizontal.Goals as goal

pub filter_luma_edge-requires-clause-inside : goal.filter_luma_edge-requires-clause-inside
filter_luma_edge-requires-clause-inside c =
    luma_room c.args.at.origin c.args.y c.args.x c.args.k c.args.at.stride _ c.requires.room c.requires.k
