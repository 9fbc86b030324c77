use Rattle.std.proofs.Common.{ℕ, Option, subst, sym, ◌∙◌}
use Rattle.std.specs.Prelude.{IfSome}
use Rattle.spec_levels.specs.Levels.{IsLeast}
use Rattle.spec_levels.proofs.First.{least_is, none_fits}
use Rattle.level_limits.proofs.least.Goals as goal

pub returns-clause-least : goal.returns-clause-least
returns-clause-least c = subst (λ (o : Option ℕ). IfSome o (λ level. IsLeast level c.args.need.now)) (sym c.first_of.ensures) (least_is c.args.need.now)

pub returns-clause-none : goal.returns-clause-none
returns-clause-none c = λ none level. none_fits c.args.need.now (sym c.first_of.ensures ∙ none) level
