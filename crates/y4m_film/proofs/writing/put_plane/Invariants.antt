use Rattle.y4m_film.specs.Waits.{waits}
use Rattle.picture_planes.specs.Samples.{samples_of}
use Rattle.y4m_film.proofs.Appending.{RowsGathered}
use Rattle.y4m_film.proofs.writing.put_plane.Given as goal

abbrev pub invariant-loop-y : goal.invariant-loop-y
invariant-loop-y g l = RowsGathered l.plane.width l.width (samples_of l.plane) l.out l.y l.waiting.count (waits l.initial.waiting) (waits l.waiting) (g.S.Studio.seen l.initial.studio) (g.S.Studio.seen l.studio)
