use Rattle.std.proofs.Common.{◌-◌}
use Rattle.picture_planes.specs.Samples.{row_of}
use Rattle.y4m_film.proofs.Widening.{RowsRepeated}
use Rattle.y4m_film.proofs.rows.repeat_last.Given as goal

abbrev pub invariant-loop-y : goal.invariant-loop-y
invariant-loop-y l = RowsRepeated l.height l.y (row_of l.initial.plane (l.height - 1)) l.initial.plane l.plane
