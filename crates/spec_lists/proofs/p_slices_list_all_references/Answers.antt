use Rattle.spec_lists.proofs.Sorted.{p_lists}
use Rattle.spec_lists.proofs.Moved.{moved_lists}
use Rattle.spec_lists.proofs.p_slices_list_all_references.Goals as goal

pub returns-clause-plain : goal.returns-clause-plain
returns-clause-plain c = p_lists

pub returns-clause-moved : goal.returns-clause-moved
returns-clause-moved c = λ h held difference named kind some none moved small low falls first. moved_lists h held difference kind some none moved small low falls (record { one = named; first = first })
