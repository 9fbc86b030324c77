use Rattle.std.proofs.Common.{◌∙◌, arith, w32}
use Rattle.std.proofs.lemmas.Int.{to_z-of_z}
use Rattle.picture_planes.proofs.Filling.{from_first, inside_nearest, filled_nearest}
use Rattle.picture_planes.proofs.plane.Plane.padded_row.Goals as goal

pub returns-clause-inside : goal.returns-clause-inside
returns-clause-inside c h x left right =
    c.window.ensures.value x (omega (arith, right))
    ∙ from_first c.args.self.now x c.buffer_place-row.result
    ∙ inside_nearest c.args.self.now c.args.y c.buffer_place-row.result x (rw (to_z-of_z w32 c.args.y c.ranges.y) at c.buffer_place-row.ensures.value) h.0 h.1 left right

pub returns-clause-filled : goal.returns-clause-filled
returns-clause-filled c filled x left right =
    c.window.ensures.value x right
    ∙ from_first c.args.self.now x c.buffer_place-row.result
    ∙ filled_nearest c.args.self.now c.args.y c.buffer_place-row.result x filled (rw (to_z-of_z w32 c.args.y c.ranges.y) at c.buffer_place-row.ensures.value) c.requires.1 right
