use Rattle.std.proofs.Common.{◌-◌, length}
use Rattle.y4m_film.proofs.Sayings.{Reads}
use Rattle.y4m_film.proofs.text.head_of_text.Given as goal

abbrev pub invariant-loop-from : goal.invariant-loop-from
invariant-loop-from l = Reads l.text l.from l.said

abbrev pub decreases-loop-from : goal.decreases-loop-from
decreases-loop-from l = length l.text - l.from
