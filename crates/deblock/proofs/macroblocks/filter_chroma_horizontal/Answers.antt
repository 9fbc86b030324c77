use Rattle.deblock.proofs.Rooms.{chroma_room}
use Rattle.deblock.proofs.macroblocks.filter_chroma_horizontal.Goals as goal

pub filter_chroma_edge-requires-clause-inside : goal.filter_chroma_edge-requires-clause-inside
filter_chroma_edge-requires-clause-inside c =
    chroma_room c.args.at.origin c.args.y c.args.x c.args.k c.args.at.stride _ c.requires.room c.requires.k
