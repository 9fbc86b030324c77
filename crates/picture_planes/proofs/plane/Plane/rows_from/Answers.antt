use Rattle.std.proofs.Common.{◌+◌, ◌*◌, arith}
use Rattle.picture_planes.specs.Margins.{buffer_at}
use Rattle.picture_planes.proofs.Blocks.{tail_is, block_at, rows_fit}
use Rattle.picture_planes.proofs.plane.Plane.rows_from.Goals as goal

pub returns-clause-value : goal.returns-clause-value
unfolding buffer_at
returns-clause-value c i j p q =
    rw (tail_is (c.args.row * (c.args.self.now.width + 2 * c.args.self.now.pad) + c.args.column) c.deref.result.now, c.deref.ensures.value)
    (block_at c.args.self.now.bytes.items (c.args.self.now.width + 2 * c.args.self.now.pad) c.args.column c.args.row i j)

pub returns-clause-len : goal.returns-clause-len
returns-clause-len c w h p q s =
    rw (tail_is (c.args.row * (c.args.self.now.width + 2 * c.args.self.now.pad) + c.args.column) c.deref.result.now)
    (rows_fit c.deref.result.now (c.args.self.now.width + 2 * c.args.self.now.pad) (c.args.self.now.height + 2 * c.args.self.now.pad) c.args.column c.args.row w h (omega arith) p q s)
