use Rattle.y4m_film.proofs.Texts.{NoneBefore}
use Rattle.spec_film.specs.Films.{is_space}
use Rattle.y4m_film.proofs.text.before_space.Given as goal

abbrev pub invariant-loop-i : goal.invariant-loop-i
invariant-loop-i l = NoneBefore is_space l.i l.text
