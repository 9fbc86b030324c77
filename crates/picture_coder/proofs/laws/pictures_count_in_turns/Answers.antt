use Rattle.picture_coder.proofs.Streams.{plain_by_parity, coarsest_by_parity}
use Rattle.picture_coder.proofs.laws.pictures_count_in_turns.Goals as goal

pub returns-clause-plain : goal.returns-clause-plain
returns-clause-plain c = plain_by_parity

pub returns-clause-coarsest : goal.returns-clause-coarsest
returns-clause-coarsest c = coarsest_by_parity
