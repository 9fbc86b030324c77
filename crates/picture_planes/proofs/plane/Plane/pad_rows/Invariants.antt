use Rattle.std.proofs.Common.{◌+◌}
use Rattle.picture_planes.specs.Edges.{Edged}
use Rattle.picture_planes.proofs.plane.Plane.pad_rows.Given as goal

abbrev pub invariant-loop-y : goal.invariant-loop-y
invariant-loop-y l = Edged 0 l.y (l.pad + l.height) l.fn.self l.self

abbrev pub invariant-loop-above : goal.invariant-loop-above
invariant-loop-above l = Edged l.above (l.pad + l.height) (l.pad + l.height) l.fn.self l.self

abbrev pub invariant-loop-below : goal.invariant-loop-below
invariant-loop-below l = Edged l.pad (l.pad + l.height) l.below l.fn.self l.self
