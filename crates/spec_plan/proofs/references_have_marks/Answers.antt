use Rattle.spec_plan.proofs.Held.{marks_go_on}
use Rattle.spec_plan.proofs.references_have_marks.Goals as goal

pub returns : goal.returns
returns bounds c = marks_go_on
