use Rattle.spec_plan.proofs.Places.{once, no_other, places_differ}
use Rattle.spec_plan.proofs.plans_have_each_place_once.Goals as goal

pub returns-clause-once : goal.returns-clause-once
returns-clause-once c = once

pub returns-clause-no_other : goal.returns-clause-no_other
returns-clause-no_other c = no_other

pub returns-clause-distinct : goal.returns-clause-distinct
returns-clause-distinct c = places_differ
