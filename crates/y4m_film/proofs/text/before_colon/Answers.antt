use Rattle.std.proofs.Common.{arith, ap}
use Rattle.spec_film.specs.Films.{is_colon}
use Rattle.y4m_film.proofs.Texts.{found_at, none_at}
use Rattle.y4m_film.proofs.text.before_colon.Goals as goal

pub returns-then-text-i-eq58-clause-value : goal.returns-then-text-i-eq58-clause-value
returns-then-text-i-eq58-clause-value c = found_at is_colon c.args.text.now c.loop-i.i c.loop-i-test.true c.loop-i.invariant (ap is_colon c.if-text-i-eq58.true)

pub returns-clause-value : goal.returns-clause-value
returns-clause-value c = none_at is_colon c.args.text.now c.loop-i.i (omega arith) c.loop-i.invariant
