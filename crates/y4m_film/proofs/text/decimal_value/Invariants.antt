use Rattle.spec_basics.proofs.DecimalLaws.{Valued}
use Rattle.y4m_film.proofs.text.decimal_value.Given as goal

abbrev pub invariant-loop-digit : goal.invariant-loop-digit
invariant-loop-digit l = Valued l.digits l.digit-index l.value
