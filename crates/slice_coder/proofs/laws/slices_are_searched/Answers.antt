use Rattle.slice_coder.specs.Plans.{task_of}
use Rattle.slice_coder.proofs.Searched.{plain_searched, coarsest_same}
use Rattle.slice_coder.proofs.laws.slices_are_searched.Goals as goal

pub returns-clause-plain : goal.returns-clause-plain
returns-clause-plain c = plain_searched

pub returns-clause-coarsest : goal.returns-clause-coarsest
returns-clause-coarsest c f h lists source plans plan before n = coarsest_same (task_of f h lists source plans) plan before n
