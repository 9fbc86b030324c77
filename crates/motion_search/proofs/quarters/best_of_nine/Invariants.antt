use Rattle.motion_search.specs.Quarters.{costs_by}
use Rattle.motion_search.specs.Rounds.{Round}
use Rattle.motion_search.proofs.quarters.best_of_nine.Given as goal

abbrev pub invariant-loop-turn : goal.invariant-loop-turn
invariant-loop-turn l = Round (costs_by l.source l.reference l.halves l.block) l.centre l.step l.turn l.best l.least
