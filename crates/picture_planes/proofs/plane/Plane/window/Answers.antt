use Rattle.std.proofs.Common.{◌+◌, ◌*◌, ◌∙◌, arith}
use Rattle.picture_planes.specs.Margins.{buffer_at}
use Rattle.picture_planes.proofs.Windows.{window_at}
use Rattle.picture_planes.proofs.plane.Plane.window.Goals as goal

pub returns-clause-value : goal.returns-clause-value
unfolding buffer_at
returns-clause-value c i p = rw c.deref.ensures.value (window_at c.args.self.now.bytes.items (c.args.row * (c.args.self.now.width + 2 * c.args.self.now.pad)) c.args.column 0 c.args.count i p)

pub returns-clause-filled : goal.returns-clause-filled
unfolding buffer_at
returns-clause-filled c filled i p =
    rw c.deref.ensures.value (window_at c.args.self.now.bytes.items (c.args.row * (c.args.self.now.width + 2 * c.args.self.now.pad)) c.args.column 0 c.args.count i p)
    ∙ filled.at (c.args.column + i) c.args.row (omega (arith, c.requires.across)) c.requires.down
