use Rattle.y4m_film.proofs.Widening.{RowsMade}
use Rattle.y4m_film.proofs.rows.set_rows.Given as goal

abbrev pub invariant-loop-k : goal.invariant-loop-k
invariant-loop-k l = RowsMade l.first l.k l.width l.samples l.initial.plane l.plane
