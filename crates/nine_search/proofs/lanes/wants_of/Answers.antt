use Rattle.nine_search.proofs.lanes.wants_of.Goals as goal

pub returns-clause-value : goal.returns-clause-value
returns-clause-value c i p small = (c.lane_wants.ensures i p small).value
