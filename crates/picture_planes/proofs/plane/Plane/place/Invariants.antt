use Rattle.picture_planes.specs.Placed.{RowsPlaced}
use Rattle.picture_planes.specs.Samples.{samples_of}
use Rattle.picture_planes.proofs.Setting.{RowsSet}
use Rattle.picture_planes.proofs.plane.Plane.place.Given as goal

abbrev pub invariant-loop-y : goal.invariant-loop-y
invariant-loop-y l = RowsPlaced l.first l.y l.other l.initial.self l.self × RowsSet l.first l.y (samples_of l.other) l.initial.self l.self
