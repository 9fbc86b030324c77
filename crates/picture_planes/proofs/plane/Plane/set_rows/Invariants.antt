use Rattle.picture_planes.proofs.Setting.{RowsSet}
use Rattle.picture_planes.proofs.plane.Plane.set_rows.Given as goal

abbrev pub invariant-loop-k : goal.invariant-loop-k
invariant-loop-k l = RowsSet l.first l.k l.samples l.initial.self l.self
