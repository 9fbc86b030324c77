use Rattle.std.proofs.Common.{refl, sym}
use Rattle.mode_choice.proofs.Parting.{no_parts, none_compared}
use Rattle.mode_choice.proofs.macroblock.plan_of_i.Goals as goal

pub returns-clause-parts : goal.returns-clause-parts
returns-clause-parts c s x y = no_parts s x y _ refl

pub returns-clause-compared : goal.returns-clause-compared
returns-clause-compared c s x y = sym (none_compared s x y)
