use Rattle.y4m_film.proofs.LineBytes.{Reading}
use Rattle.y4m_film.proofs.lines.read_line.Given as goal

abbrev pub invariant-loop-n : goal.invariant-loop-n
invariant-loop-n g l = Reading l.n l.line (g.S.Studio.seen l.initial.studio) (g.S.Studio.seen l.studio)
