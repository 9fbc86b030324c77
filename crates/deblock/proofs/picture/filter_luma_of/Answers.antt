use Rattle.std.proofs.Common.{ap}
use Rattle.spec_filter.specs.declared.Layout.{Layout}
use Rattle.deblock.proofs.Rooms.{luma_plane_room}
use Rattle.deblock.proofs.picture.filter_luma_of.Goals as goal

pub filter_luma-requires-clause-room : goal.filter_luma-requires-clause-room
filter_luma-requires-clause-room c =
    luma_plane_room c.args.x c.args.y c.args.plane.now.width c.args.plane.now.height c.args.plane.now.pad _ _ _
    (ap (λ (l : Layout). l.origin) c.layout-at.ensures) (ap (λ (l : Layout). l.stride) c.layout-at.ensures) c.buffer_mut.ensures.len c.requires.column c.requires.row
