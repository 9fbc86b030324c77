use Rattle.std.proofs.Common.{◌-◌}
use Rattle.y4m_film.proofs.Widening.{Filling}
use Rattle.y4m_film.proofs.rows.read_all_rows.Given as goal

abbrev pub invariant-loop-first : goal.invariant-loop-first
invariant-loop-first g l = Filling l.first l.width l.height l.initial.plane l.plane (g.S.Studio.seen l.initial.studio) (g.S.Studio.seen l.studio)

abbrev pub decreases-loop-first : goal.decreases-loop-first
decreases-loop-first g l = l.height - l.first
