use Rattle.spec_coding.proofs.Passing.{supplement_passed, filler_passed}
use Rattle.spec_coding.proofs.messages_and_filler_are_passed_over.Goals as goal

pub returns-clause-messages : goal.returns-clause-messages
returns-clause-messages c = supplement_passed

pub returns-clause-filler : goal.returns-clause-filler
returns-clause-filler c = filler_passed
